use Rattle.std.proofs.Common.{ap, arith}
use Rattle.std.specs.List.{list_any}
use Rattle.std.proofs.lemmas.Simd.{map-map}
use Rattle.std.proofs.lemmas.Grind.{common_steps}
use Rattle.spec_clauses.specs.Norm.{is_known}
use Rattle.clause_form.specs.Facts.{fact_of}
use Rattle.clause_form.specs.Seen.{fact_at}
use Rattle.clause_form.proofs.Walks.{fact_known_at}
use Rattle.clause_form.proofs.normal.is_known_among.Goals as goal

pub loop-fact-init : goal.loop-fact-init
loop-fact-init g c = let all = g.B.Bank.trees c.args.bank.now in ap (list_any (is_known c.args.number)) (map-map (fact_at all) fact_of c.args.facts.now)

pub is_known-requires : goal.is_known-requires
is_known-requires g c = fact_known_at (g.B.Bank.trees c.args.bank.now) c.args.facts.now c.loop-fact.fact-index c.fact-item.result c.fact-item.is c.requires c.loop-fact-test.true

pub returns-then-is_known : goal.returns-then-is_known
returns-then-is_known g c = grind (arith, common_steps)

pub loop-fact-preserved : goal.loop-fact-preserved
loop-fact-preserved g c = grind (arith, common_steps)

pub returns : goal.returns
returns g c = grind (arith, common_steps)
