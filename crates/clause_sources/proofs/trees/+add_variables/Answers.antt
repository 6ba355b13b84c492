use Rattle.std.proofs.Common.{◌∙◌, ◌++◌, map, ap, sym, arith}
use Rattle.std.proofs.lemmas.Grind.{common_steps}
use Rattle.clause_diffs.proofs.Lists.{flat_map_all}
use Rattle.clause_diffs.specs.Plain.{term_of}
use Rattle.clause_sources.proofs.Numbering.{tree_leaves, leaves_of}
use Rattle.clause_sources.proofs.trees.+add_variables.Goals as goal

pub each-preserved : goal.each-preserved
each-preserved t c = grind (arith, common_steps)

pub returns-after-each : goal.returns-after-each
returns-after-each t c =
    let items = c.deref-argument-items.result.now in
    c.each.invariant
    ∙ ap (λ l. c.args.numbers.now.items ++ l) (flat_map_all tree_leaves items c.each.argument-index c.each-test.false
    ∙ sym (leaves_of c.args.tree.now c.in-App.field-0 c.in-App.arguments items c.in-App.is (ap (map term_of) c.deref-argument-items.ensures.value ∙ c.arguments.view_is)))
