-- Terms of a constraint under bindings.
use Rattle.std.specs.Prelude.{ℕ, ◌<◌, List}
use Rattle.std.specs.List.{AllByRecursion}
use Rattle.spec_terms.specs.Term.{Term, Subst}
use Rattle.spec_terms.specs.Binding.{resolved}
use Rattle.spec_clauses.specs.Diff.{Diff, diff_variables}
use Rattle.spec_clauses.specs.Shown.{lifted}
use Rattle.unify_match.specs.Seen.{seen, IsReady}
use Rattle.unified_visits.specs.declared.constrained.Lift.{Lift}

-- The clause's variables stand for what the bindings have for them; those that the constraint binds are lifted above all others.
abbrev pub lifted_by : List Term → Lift → Subst
lifted_by all l = lifted (resolved (seen all l.binds.now.pairs)) l.first l.next

-- the bindings can be applied to terms of the bank
abbrev pub IsLiftReady : List Term → Lift → Type 0
IsLiftReady all l = IsReady all l.binds.now.pairs

-- the clause's variables in the constraint are below a number
abbrev pub IsOwnBelow : ℕ → Diff → Type 0
IsOwnBelow n d = AllByRecursion (λ x. x < n) (diff_variables d)
