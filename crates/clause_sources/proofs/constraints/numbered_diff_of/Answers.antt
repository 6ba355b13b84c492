use Rattle.std.proofs.Common.{◌∙◌, nat_eq, ap, sym}
use Rattle.spec_clauses.specs.Diff.{diff_under, bound_variables, numbered_diff}
use Rattle.spec_clauses.specs.Distinct.{distinct}
use Rattle.spec_clauses.specs.Shown.{Shown, diff_shown}
use Rattle.clause_diffs.specs.Numbers.{placed}
use Rattle.clause_sources.proofs.BoundVariables.{sides_numbered}
use Rattle.clause_sources.proofs.constraints.numbered_diff_of.Goals as goal

pub returns : goal.returns
returns c =
    let d : Shown = record { first = c.diff.inside.first; left = c.diff.inside.left; right = c.diff.inside.right } in
    let own = c.args.order.now in
    let next = c.in_ok-next.next in
    let order = c.in_ok-bound.ensures ∙ ap (distinct nat_eq) (c.in_ok-bound_variables_of.ensures ∙ ap bound_variables (sym c.diff.view_is)) in
    (λ i. diff_shown (record { first = next; left = c.in_ok-left.ensures i; right = c.in_ok-right.ensures i }))
    ∙ (sides_numbered own c.in_ok-bound.bound next d order c.in_ok-next.ensures ∙ ap (λ e. diff_under (placed own) (numbered_diff e)) c.diff.view_is)
