use Rattle.std.proofs.Common.{◌∙◌, map, ap, sym, arith}
use Rattle.std.proofs.lemmas.Grind.{common_steps}
use Rattle.std.proofs.lemmas.List.{take_all}
use Rattle.std.proofs.lemmas.Simd.{map-map}
use Rattle.spec_clauses.specs.Fact.{fact_under}
use Rattle.clause_sources.specs.Places.{by_numbers}
use Rattle.clause_form.specs.PlainFacts.{plain_fact_of}
use Rattle.clause_sources.proofs.trees.numbered_facts.Goals as goal

pub returns : goal.returns
returns c =
    let items = c.deref-fact-items.result.now in
    let s = by_numbers c.args.numbers.now in
    c.each.invariant ∙ (ap (map (λ f. fact_under s (plain_fact_of f))) (take_all c.each.fact-index items c.each-test.false)
    ∙ (sym (map-map (fact_under s) plain_fact_of items) ∙ ap (map (fact_under s)) (ap (map plain_fact_of) c.deref-fact-items.ensures.value ∙ c.facts.view_is)))

pub each-preserved : goal.each-preserved
each-preserved c = grind (arith, common_steps)

pub each-init : goal.each-init
each-init c = grind (arith, common_steps)
