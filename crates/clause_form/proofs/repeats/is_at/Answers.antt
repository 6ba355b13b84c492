use Rattle.clause_form.specs.Facts.{fact_of}
use Rattle.clause_form.specs.Seen.{fact_at}
use Rattle.clause_form.proofs.Walks.{fact_known_at}
use Rattle.clause_form.proofs.Keying.{found_at}
use Rattle.clause_form.proofs.repeats.is_at.Goals as goal

pub same_fact-requires-clause-right : goal.same_fact-requires-clause-right
same_fact-requires-clause-right g c = fact_known_at (g.B.Bank.trees c.args.bank.now) c.args.facts.now c.args.place c.index-facts-place.result c.index-facts-place.is c.requires.facts c.if-place-facts.true

pub returns-then-place-facts : goal.returns-then-place-facts
returns-then-place-facts g c passed =
    let all = g.B.Bank.trees c.args.bank.now in
    found_at all c.args.facts.now c.args.place c.index-facts-place.result (fact_at all (fact_of c.args.fact.now)) c.same_fact.result c.if-place-facts.true c.index-facts-place.is c.same_fact.ensures passed
