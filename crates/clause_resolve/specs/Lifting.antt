-- Terms of a constraint under bindings.
use Rattle.std.specs.Prelude.{List}
use Rattle.spec_terms.specs.Term.{Term, Subst}
use Rattle.spec_terms.specs.Binding.{resolved}
use Rattle.spec_clauses.specs.Shown.{lifted}
use Rattle.unify_match.specs.Seen.{seen, IsReady}
use Rattle.clause_resolve.specs.declared.lifting.Lift.{Lift}
use Rattle.clause_resolve.specs.Low.{bound_from}

-- The clause's variables stand for what the bindings have for them; those that the constraint binds are lifted above all others.
abbrev pub lifted_by : List Term → Lift → Subst
lifted_by all l = lifted (resolved (seen all l.binds.now.pairs)) l.first bound_from

-- the bindings can be applied to terms of the bank
abbrev pub IsLiftReady : List Term → Lift → Type 0
IsLiftReady all l = IsReady all l.binds.now.pairs
