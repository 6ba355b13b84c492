use Rattle.clause_form.proofs.Walks.{fact_known_at}
use Rattle.std.proofs.Common.{arith}
use Rattle.std.proofs.lemmas.Grind.{common_steps}
use Rattle.unified_visits.proofs.sizes.some_large_fact.Goals as goal

pub is_large_fact-requires : goal.is_large_fact-requires
is_large_fact-requires g c = fact_known_at (g.B.Bank.trees c.args.bank.now) c.args.facts.now c.loop-fact.fact-index c.fact-item.result c.fact-item.is c.requires c.loop-fact-test.true

pub returns-then-is_large_fact : goal.returns-then-is_large_fact
returns-then-is_large_fact g c = grind (arith, common_steps)

pub loop-fact-preserved : goal.loop-fact-preserved
loop-fact-preserved g c = grind (arith, common_steps)

pub returns : goal.returns
returns g c = grind (arith, common_steps)
