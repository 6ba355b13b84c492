use Rattle.std.proofs.Common.{◌∙◌, map, ap, sym, arith}
use Rattle.std.proofs.lemmas.Grind.{common_steps}
use Rattle.std.proofs.lemmas.List.{take_all}
use Rattle.std.proofs.lemmas.Simd.{map-map}
use Rattle.spec_trees.specs.Tree.{bind}
use Rattle.clause_sources.specs.Places.{by_numbers}
use Rattle.clause_diffs.specs.Plain.{term_of}
use Rattle.clause_sources.proofs.Numbering.{numbered_next}
use Rattle.clause_sources.proofs.trees.numbered_trees.Goals as goal

pub each-preserved : goal.each-preserved
each-preserved c =
    numbered_next (by_numbers c.args.numbers.now) c.deref-tree-items.result.now c.each.tree-index c.tree-item.result (map term_of c.each.items.items) (map term_of c.add_numbered.new.made.items) c.each.invariant c.each-test.true c.tree-item.is c.in_ok-add_numbered.ensures

pub returns : goal.returns
returns c =
    let items = c.deref-tree-items.result.now in
    let s = by_numbers c.args.numbers.now in
    c.each.invariant ∙ (ap (map (λ u. bind s (term_of u))) (take_all c.each.tree-index items c.each-test.false)
    ∙ (sym (map-map (bind s) term_of items) ∙ ap (map (bind s)) (ap (map term_of) c.deref-tree-items.ensures.value ∙ c.trees.view_is)))

pub each-init : goal.each-init
each-init c = grind (arith, common_steps)
