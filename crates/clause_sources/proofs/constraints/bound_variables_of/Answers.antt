use Rattle.std.proofs.Common.{◌≡◌, ◌∙◌, ℕ, List, IfOk, subst}
use Rattle.spec_clauses.specs.Shown.{Shown}
use Rattle.clause_sources.proofs.BoundVariables.{bound_of_shown}
use Rattle.clause_sources.proofs.constraints.bound_variables_of.Goals as goal

pub returns : goal.returns
returns c =
    let d : Shown = record { first = c.diff.inside.first; left = c.diff.inside.left; right = c.diff.inside.right } in
    subst (λ (l : List ℕ). IfOk c.numbers_from.result (λ numbers. numbers.items ≡ l)) (bound_of_shown d c.args.diff.now c.deref.result.now c.diff.view_is (c.deref.ensures.value ∙ c.in_ok-all.ensures)) c.numbers_from.ensures
