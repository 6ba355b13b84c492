use Rattle.std.proofs.Common.{◌≡◌, ◌∙◌, ◌<◌, List, subst, sym, arith}
use Rattle.std.proofs.lemmas.Grind.{common_steps}
use Rattle.std.specs.List.{AllByRecursion}
use Rattle.spec_calculus.proofs.Items.{each-get_or}
use Rattle.spec_clauses.specs.Diff.{Diff, diff_variables}
use Rattle.shared_cert.proofs.spelling.all_bound_behind.Goals as goal

pub bound_behind-requires : goal.bound_behind-requires
bound_behind-requires c =
    let items = c.deref-diff-items.result.now in
    let same : items ≡ c.args.diffs.now = c.deref-diff-items.ensures.value ∙ c.diffs.view_is in
    let below = subst (λ (ds : List Diff). AllByRecursion (λ d. AllByRecursion (λ x. x < c.args.next) (diff_variables d)) ds) (sym same) c.requires in
    subst (λ (d : Diff). AllByRecursion (λ x. x < c.args.next) (diff_variables d)) (sym c.diff-item.is)
    (each-get_or (λ (d : Diff). AllByRecursion (λ x. x < c.args.next) (diff_variables d)) items c.each.diff-index c.diff-item.result c.each-test.true below)

pub each-preserved : goal.each-preserved
each-preserved c = grind (arith, common_steps)

pub returns : goal.returns
returns c = grind (arith, common_steps)
