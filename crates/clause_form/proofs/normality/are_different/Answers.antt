use Rattle.std.proofs.Common.{◌∙◌, ◌+◌, not, ◌&&◌, map, drop, ap, sym, arith}
use Rattle.std.proofs.lemmas.Simd.{map-map}
use Rattle.std.proofs.lemmas.Grind.{common_steps}
use Rattle.clause_form.specs.Facts.{fact_of}
use Rattle.clause_form.specs.Seen.{fact_at}
use Rattle.clause_form.specs.Normality.{are_different}
use Rattle.clause_form.proofs.Walks.{fact_known_at}
use Rattle.clause_form.proofs.Testing.{rest_known, different_on}
use Rattle.clause_form.proofs.normality.are_different.Goals as goal

pub each-init : goal.each-init
each-init g c = let all = g.B.Bank.trees c.args.bank.now in ap are_different (map-map (fact_at all) fact_of c.args.facts.now)

pub is_among-requires-clause-facts : goal.is_among-requires-clause-facts
is_among-requires-clause-facts g c = rest_known (g.B.Bank.trees c.args.bank.now) c.args.facts.now (c.each.i + 1) c.requires

pub is_among-requires-clause-fact : goal.is_among-requires-clause-fact
is_among-requires-clause-fact g c = fact_known_at (g.B.Bank.trees c.args.bank.now) c.args.facts.now c.each.i c.index-facts-i.result c.index-facts-i.is c.requires c.each-test.true

pub returns-then-is_among : goal.returns-then-is_among
returns-then-is_among g c =
    let all = g.B.Bank.trees c.args.bank.now in
    sym (c.each.invariant
    ∙ (different_on all c.args.facts.now c.each.i c.index-facts-i.result c.is_among.result c.each-test.true c.index-facts-i.is c.is_among.ensures
    ∙ ap (λ b. not b && are_different (map (λ h. fact_at all (fact_of h)) (drop (c.each.i + 1) c.args.facts.now))) c.if-is_among.true))

pub each-preserved : goal.each-preserved
each-preserved g c =
    let all = g.B.Bank.trees c.args.bank.now in
    c.each.invariant
    ∙ (different_on all c.args.facts.now c.each.i c.index-facts-i.result c.is_among.result c.each-test.true c.index-facts-i.is c.is_among.ensures
    ∙ ap (λ b. not b && are_different (map (λ h. fact_at all (fact_of h)) (drop (c.each.i + 1) c.args.facts.now))) c.if-is_among.false)

pub returns : goal.returns
returns g c = grind (arith, common_steps)
