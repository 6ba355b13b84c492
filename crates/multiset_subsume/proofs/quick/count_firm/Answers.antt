use Rattle.std.proofs.Common.{◌≡◌, ap, map, sym, length, arith}
use Rattle.std.proofs.lemmas.Simd.{map-map}
use Rattle.std.proofs.lemmas.Grind.{common_steps}
use Rattle.spec_clauses.specs.Subsumption.{firm}
use Rattle.clause_form.specs.Facts.{fact_of}
use Rattle.clause_form.specs.Seen.{fact_at}
use Rattle.clause_form.proofs.Walks.{fact_known_at}
use Rattle.fact_placing.specs.Boards.{facts_at}
use Rattle.multiset_subsume.proofs.quick.count_firm.Goals as goal

pub each-init : goal.each-init
each-init g c =
    let all = g.B.Bank.trees c.args.bank.now in
    let same : length (firm (map (λ h. fact_at all (fact_of h)) c.args.facts.now)) ≡ length (firm (facts_at all (map fact_of c.args.facts.now))) = ap (λ l. length (firm l)) (sym (map-map (fact_at all) fact_of c.args.facts.now)) in
    record { sum = omega (arith, same); few = omega arith }

pub one_if_firm-count-requires : goal.one_if_firm-count-requires
one_if_firm-count-requires g c = fact_known_at (g.B.Bank.trees c.args.bank.now) c.args.facts.now c.each.fact-index c.fact-item.result c.fact-item.is c.requires c.each-test.true

pub each-preserved : goal.each-preserved
each-preserved g c = grind (arith, common_steps)

pub returns : goal.returns
returns g c = grind (arith, common_steps)
