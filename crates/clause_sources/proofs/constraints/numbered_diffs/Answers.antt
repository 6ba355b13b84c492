use Rattle.std.proofs.Common.{◌∙◌, map, ap, sym, arith}
use Rattle.std.proofs.lemmas.Grind.{common_steps}
use Rattle.std.proofs.lemmas.List.{take_all}
use Rattle.std.proofs.lemmas.Simd.{map-map}
use Rattle.spec_clauses.specs.Diff.{diff_under, numbered_diff}
use Rattle.clause_diffs.specs.Numbers.{placed}
use Rattle.clause_sources.proofs.constraints.numbered_diffs.Goals as goal

pub returns : goal.returns
returns c =
    let items = c.deref-diff-items.result.now in
    let s = placed c.args.order.now in
    c.each.invariant ∙ (ap (map (λ d. diff_under s (numbered_diff d))) (take_all c.each.diff-index items c.each-test.false)
    ∙ (sym (map-map (diff_under s) numbered_diff items) ∙ ap (λ ds. map (diff_under s) (map numbered_diff ds)) (c.deref-diff-items.ensures.value ∙ c.diffs.view_is)))

pub each-preserved : goal.each-preserved
each-preserved c = grind (arith, common_steps)
