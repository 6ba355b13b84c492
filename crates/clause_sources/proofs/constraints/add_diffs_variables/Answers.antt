use Rattle.std.proofs.Common.{◌∙◌, ◌++◌, flat_map, ap, arith}
use Rattle.std.proofs.lemmas.Grind.{common_steps}
use Rattle.spec_clauses.specs.Diff.{diff_variables}
use Rattle.clause_diffs.proofs.Lists.{flat_map_all}
use Rattle.clause_sources.proofs.constraints.add_diffs_variables.Goals as goal

pub returns : goal.returns
returns c =
    let items = c.deref-diff-items.result.now in
    c.each.invariant
    ∙ ap (λ l. c.args.numbers.now.items ++ l) (flat_map_all diff_variables items c.each.diff-index c.each-test.false ∙ ap (flat_map diff_variables) (c.deref-diff-items.ensures.value ∙ c.diffs.view_is))

pub each-preserved : goal.each-preserved
each-preserved c = grind (arith, common_steps)
