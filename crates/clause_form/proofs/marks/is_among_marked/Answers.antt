use Rattle.std.proofs.Common.{◌∙◌, map}
use Rattle.clause_form.specs.Facts.{fact_of}
use Rattle.clause_form.specs.Seen.{fact_at}
use Rattle.clause_form.proofs.Marking.{among_marked}
use Rattle.clause_form.proofs.marks.is_among_marked.Goals as goal

pub returns-else-is_marked : goal.returns-else-is_marked
returns-else-is_marked g c =
    let all = g.B.Bank.trees c.args.bank.now in
    c.if-is_marked.false ∙ among_marked (map (fact_at all) (map fact_of c.args.facts.now)) (fact_at all (fact_of c.args.fact.now)) c.args.key c.args.marks.now c.is_marked.result c.requires.marked c.requires.key c.is_marked.ensures c.if-is_marked.false
