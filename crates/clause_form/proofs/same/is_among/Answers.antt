use Rattle.std.proofs.Common.{ap, arith}
use Rattle.std.specs.List.{list_any}
use Rattle.std.proofs.lemmas.Simd.{map-map}
use Rattle.std.proofs.lemmas.Grind.{common_steps}
use Rattle.spec_clauses.specs.Fact.{same_fact}
use Rattle.clause_form.specs.Facts.{fact_of}
use Rattle.clause_form.specs.Seen.{fact_at}
use Rattle.clause_form.proofs.Walks.{fact_known_at}
use Rattle.clause_form.proofs.same.is_among.Goals as goal

pub loop-one-init : goal.loop-one-init
loop-one-init g c = let all = g.B.Bank.trees c.args.bank.now in ap (list_any (same_fact (fact_at all (fact_of c.args.fact.now)))) (map-map (fact_at all) fact_of c.args.facts.now)

pub same_fact-requires-clause-right : goal.same_fact-requires-clause-right
same_fact-requires-clause-right g c = fact_known_at (g.B.Bank.trees c.args.bank.now) c.args.facts.now c.loop-one.one-index c.one-item.result c.one-item.is c.requires.facts c.loop-one-test.true

pub returns-then-same_fact : goal.returns-then-same_fact
returns-then-same_fact g c = grind (arith, common_steps)

pub loop-one-preserved : goal.loop-one-preserved
loop-one-preserved g c = grind (arith, common_steps)

pub returns : goal.returns
returns g c = grind (arith, common_steps)
