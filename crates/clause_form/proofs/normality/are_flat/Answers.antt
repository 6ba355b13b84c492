use Rattle.std.proofs.Common.{ap, arith}
use Rattle.std.specs.List.{list_all}
use Rattle.std.proofs.lemmas.Simd.{map-map}
use Rattle.std.proofs.lemmas.Grind.{common_steps}
use Rattle.spec_clauses.specs.Flat.{is_flat}
use Rattle.clause_form.specs.Facts.{fact_of}
use Rattle.clause_form.specs.Seen.{fact_at}
use Rattle.clause_form.proofs.Walks.{fact_known_at}
use Rattle.clause_form.proofs.normality.are_flat.Goals as goal

pub loop-fact-init : goal.loop-fact-init
loop-fact-init g c = let all = g.B.Bank.trees c.args.bank.now in ap (list_all is_flat) (map-map (fact_at all) fact_of c.args.facts.now)

pub is_flat-requires : goal.is_flat-requires
is_flat-requires g c = fact_known_at (g.B.Bank.trees c.args.bank.now) c.args.facts.now c.loop-fact.fact-index c.fact-item.result c.fact-item.is c.requires c.loop-fact-test.true

pub returns-then-not-is_flat : goal.returns-then-not-is_flat
returns-then-not-is_flat g c = grind (arith, common_steps)

pub loop-fact-preserved : goal.loop-fact-preserved
loop-fact-preserved g c = grind (arith, common_steps)

pub returns : goal.returns
returns g c = grind (arith, common_steps)
