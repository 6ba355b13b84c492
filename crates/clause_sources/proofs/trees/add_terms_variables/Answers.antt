use Rattle.std.proofs.Common.{◌∙◌, ◌++◌, map, flat_map, ap, sym, arith}
use Rattle.std.proofs.lemmas.List.Folds.{flat_map-map}
use Rattle.std.proofs.lemmas.Grind.{common_steps}
use Rattle.clause_diffs.proofs.Lists.{flat_map_all}
use Rattle.clause_diffs.specs.Plain.{term_of}
use Rattle.spec_clauses.specs.Variables.{leaves}
use Rattle.clause_sources.proofs.Numbering.{tree_leaves}
use Rattle.clause_sources.proofs.trees.add_terms_variables.Goals as goal

pub each-preserved : goal.each-preserved
each-preserved c = grind (arith, common_steps)

pub returns : goal.returns
returns c =
    let items = c.deref-tree-items.result.now in
    c.each.invariant
    ∙ ap (λ l. c.args.numbers.now.items ++ l) (flat_map_all tree_leaves items c.each.tree-index c.each-test.false
    ∙ (sym (flat_map-map leaves term_of items) ∙ ap (flat_map leaves) (ap (map term_of) c.deref-tree-items.ensures.value ∙ c.trees.view_is)))
