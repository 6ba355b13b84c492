-- What one pending entry is.
use Rattle.std.specs.Prelude.{◌≡◌, ℕ, Bool, true, false, Option, None, Some, List, [], ◌∷◌, ◌++◌}
use Rattle.spec_terms.specs.Term.{Term}
use Rattle.spec_calculus.specs.Points.{numbered}
use Rattle.spec_saturation.specs.Key.{Entry}
use Rattle.log_entries.specs.declared.log.Origin.TheVariants.{Resolvent}
use Rattle.log_entries.specs.Logs.{IsOrigin}
use Rattle.spec_attack_runs.specs.Source.{Source}
use Rattle.spec_attack_runs.specs.Instance.{Pending, IsGiven, IsResolved}
use Rattle.clause_instances.specs.declared.expansion.Expanded.{Expanded}
use Rattle.clause_instances.specs.declared.expansion.Expanded.TheVariants as expanded
use Rattle.clause_instances.specs.declared.instance.Instance as made
use Rattle.clause_instances.specs.declared.instance.Pending as held
use Rattle.clause_instances.specs.declared.resolved.Descends.{Descends}
use Rattle.clause_instances.specs.Instances.{NamesInstance, IsKnownInstance, pending_at, ArePendingIn}

-- the pending entry is the given clause of that number, or the resolvent of these numbers
pub record IsGivenAt (log : List Entry) (p : Pending) (number : ℕ) : Type 0 where
  pub entry : Entry
  pub at : numbered log p.number ≡ Some entry
  pub given : entry.key.major ≡ entry.key.minor
  pub number_is : entry.key.number ≡ number

pub record IsResolvedAt (log : List Entry) (p : Pending) (descends : Descends) : Type 0 where
  pub entry : Entry
  pub at : numbered log p.number ≡ Some entry
  pub origin : IsOrigin log (Resolvent descends.number descends.solved descends.unsolved) entry.key

-- it is given, with this instance, and the next name has that number
pub record GivesInstance (all : List Term) (sources : List Source) (log : List Entry) (p : Pending) (n : ℕ) (ids : made.Instance) (m : ℕ) : Type 0 where
  pub instance : Source
  pub named : NamesInstance all sources ids instance
  pub given : IsGiven sources log p n instance m

abbrev pub IsNotGiven : List Source → List Entry → Pending → ℕ → Type 0
IsNotGiven sources log p n = (instance : Source) (m : ℕ) → IsGiven sources log p n instance m → ⊥

abbrev pub IsInstanceOf : List Term → List Source → List Entry → Pending → ℕ → Option made.Instance → ℕ → Type 0
IsInstanceOf all sources log p n (Some ids) m = GivesInstance all sources log p n ids m
IsInstanceOf all sources log p n None m = IsNotGiven sources log p n

-- it is no resolvent, or one of these two
abbrev pub IsNotResolved : List Entry → Pending → ℕ → Type 0
IsNotResolved log p n = (left right : Pending) (m : ℕ) → IsResolved log p n left right m → ⊥

abbrev pub AreParentsOf : List Term → List Entry → Pending → ℕ → Option (held.Pending × held.Pending) → ℕ → Type 0
AreParentsOf all log p n (Some ids) m = IsResolved log p n (pending_at all ids.0) (pending_at all ids.1) m
AreParentsOf all log p n None m = IsNotResolved log p n

-- the ids of both name trees
abbrev pub AreParentsIn : List Term → Option (held.Pending × held.Pending) → Type 0
AreParentsIn all (Some ids) = ArePendingIn all (ids.0 ∷ ids.1 ∷ [])
AreParentsIn all None = Unit {0}

-- it is what it is expanded to
abbrev pub IsExpandedTo : List Term → List Source → List Entry → Pending → ℕ → Expanded → ℕ → Type 0
IsExpandedTo all sources log p n expanded.Nothing m = IsNotGiven sources log p n × IsNotResolved log p n
IsExpandedTo all sources log p n (expanded.Given ids) m = GivesInstance all sources log p n ids m
IsExpandedTo all sources log p n (expanded.Resolved left right) m = IsResolved log p n (pending_at all left) (pending_at all right) m

-- the ids of what it is expanded to name trees
abbrev pub IsExpandedIn : List Term → Expanded → Type 0
IsExpandedIn all expanded.Nothing = Unit {0}
IsExpandedIn all (expanded.Given ids) = IsKnownInstance all ids
IsExpandedIn all (expanded.Resolved left right) = ArePendingIn all (left ∷ right ∷ [])

-- what was told and what is left, with that added, and whether something comes of it
abbrev pub AddsExpanded : List made.Instance → List held.Pending → Expanded → List made.Instance → List held.Pending → Bool → Type 0
AddsExpanded told stack expanded.Nothing more now went = went ≡ false
AddsExpanded told stack (expanded.Given ids) more now went = (went ≡ true) × (more ≡ told ++ ids ∷ []) × (now ≡ stack)
AddsExpanded told stack (expanded.Resolved left right) more now went = (went ≡ true) × (more ≡ told) × (now ≡ (stack ++ right ∷ []) ++ left ∷ [])
