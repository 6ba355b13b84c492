use Rattle.std.proofs.Common.{map, option_map, sym, ap, ◌∙◌, arith}
use Rattle.spec_trees.specs.Tree.{trees}
use Rattle.spec_calculus.specs.Values.{bound_to}
use Rattle.spec_calculus.specs.Matching.{places_row}
use Rattle.pi_tree.specs.Terms.{term_of}
use Rattle.pi_tree.specs.Values.{value_of}
use Rattle.pi_tree.specs.Slots.{name_of}
use Rattle.term_values.proofs.Places.{row-found, row-passed, of_places}
use Rattle.std.proofs.lemmas.Grind.{common_steps}
use Rattle.term_values.proofs.bindings.+place.Goals as goal

pub place_in-returns-in-Some : goal.place_in-returns-in-Some
place_in-returns-in-Some t c =
    sym (row-found c.deref-term-items.result.now c.args.values.now c.loop-index.index c.term-item.result c.index-values-index.result (name_of c.args.slot) (value_of c.in-Some.found.now)
    (omega arith) c.term-item.is (omega arith) c.index-values-index.is (sym c.place.ensures ∙ ap (option_map (λ v. value_of v.now)) c.in-Some.is))
    ∙ c.loop-index.invariant
    ∙ ap (λ ts. bound_to (places_row (trees ts) (trees (map value_of c.args.values.now))) (name_of c.args.slot)) (ap (map term_of) c.deref-term-items.ensures.value ∙ c.terms.view_is)

pub place_in-loop-index-preserved : goal.place_in-loop-index-preserved
place_in-loop-index-preserved t c =
    sym (row-passed c.deref-term-items.result.now c.args.values.now c.loop-index.index c.term-item.result c.index-values-index.result (name_of c.args.slot)
    (omega arith) c.term-item.is (omega arith) c.index-values-index.is (sym c.place.ensures ∙ ap (option_map (λ v. value_of v.now)) c.in_default.is))
    ∙ c.loop-index.invariant

pub place_in-returns-then-index-values : goal.place_in-returns-then-index-values
place_in-returns-then-index-values t c = grind (arith, common_steps, of_places)
