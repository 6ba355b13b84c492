use Rattle.std.proofs.Common.{not, ap, arith}
use Rattle.std.specs.List.{list_all}
use Rattle.std.proofs.lemmas.Simd.{map-map}
use Rattle.std.proofs.lemmas.Grind.{common_steps}
use Rattle.spec_clauses.specs.Norm.{is_lonely}
use Rattle.clause_form.specs.Facts.{fact_of}
use Rattle.clause_form.specs.Seen.{fact_at}
use Rattle.clause_form.proofs.Walks.{fact_known_at}
use Rattle.clause_form.proofs.normal.none_lonely.Goals as goal

pub loop-fact-init : goal.loop-fact-init
loop-fact-init g c = ap (list_all (λ h. not (is_lonely c.args.numbers.now h))) (map-map (fact_at (g.B.Bank.trees c.args.bank.now)) fact_of c.args.facts.now)

pub is_lonely-requires : goal.is_lonely-requires
is_lonely-requires g c = fact_known_at (g.B.Bank.trees c.args.bank.now) c.args.facts.now c.loop-fact.fact-index c.fact-item.result c.fact-item.is c.requires c.loop-fact-test.true

pub returns-then-is_lonely : goal.returns-then-is_lonely
returns-then-is_lonely g c = grind (arith, common_steps)

pub loop-fact-preserved : goal.loop-fact-preserved
loop-fact-preserved g c = grind (arith, common_steps)

pub returns : goal.returns
returns g c = grind (arith, common_steps)
