use Rattle.std.proofs.Common.{◌∙◌, ℕ, List, IfOk, filter, map, subst}
use Rattle.clause_diffs.specs.Diffs.{diffs_at, NameDiffs}
use Rattle.clause_diffs.specs.Needed.{is_needed_among}
use Rattle.clause_form.specs.Facts.{fact_of}
use Rattle.clause_form.specs.Normals.{anchors_at}
use Rattle.clause_form.proofs.Anchoring.{empty_of, none_needed}
use Rattle.clause_form.proofs.anchors.needed_of.Goals as goal

pub returns-then-is_empty : goal.returns-then-is_empty
returns-then-is_empty g c =
    let all = g.B.Bank.trees c.args.bank.now in
    none_needed all (is_needed_among (anchors_at all (map fact_of c.args.hyps.now) (fact_of c.args.concl.now))) c.args.diffs.now c.new.result c.new.ensures (empty_of c.args.diffs.now c.is_empty.result c.is_empty.ensures c.if-is_empty.true)

pub returns : goal.returns
returns g c =
    let all = g.B.Bank.trees c.args.bank.now in
    subst (λ (ns : List ℕ). IfOk c.needed.result (λ kept. NameDiffs all kept (filter (is_needed_among ns) (diffs_at all c.args.diffs.now)))) (c.in_ok-anchors.ensures ∙ c.in_ok-numbers.ensures) c.needed.ensures
