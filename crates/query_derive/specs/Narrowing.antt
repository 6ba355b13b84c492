-- What matching does to bindings, and positions under bindings.
use Rattle.std.specs.Prelude.{◌↔◌, ℕ, List}
use Rattle.spec_terms.specs.Term.{Term, Subst}
use Rattle.spec_terms.specs.Binding.{Agrees}
use Rattle.spec_clauses.specs.Fact.{Fact}
use Rattle.spec_clauses.specs.Subsumption.{ComesBefore}
use Rattle.unify_match.specs.declared.bound.Bound.{Bound}
use Rattle.unify_match.specs.Seen.{seen}
use Rattle.query_derive.specs.Sought.{AreAt}

-- the substitutions that have the new bindings are those that have the old and of which Q holds
pub record Narrows (all : List Term) (old new : List Bound) (Q : Subst → Type 0) : Type 0 where
  pub only : (s : Subst) → Agrees s (seen all new) ↔ (Agrees s (seen all old) × Q s)

-- of no substitution that has the bindings Q holds
abbrev pub Excludes : List Term → List Bound → (Subst → Type 0) → Type 0
Excludes all pairs Q = (s : Subst) → Agrees s (seen all pairs) → Q s → ⊥

-- under a substitution that has the bindings the events stand at the positions
pub record ArePlaced (all : List Term) (pairs : List Bound) (events hypotheses : List (Fact Term)) (row : List ℕ) : Type 0 where
  pub by : Subst
  pub agrees : Agrees by (seen all pairs)
  pub events_at : AreAt by events hypotheses row

-- and they do so at no positions that come before
pub record AreFirstPlaced (all : List Term) (pairs : List Bound) (events hypotheses : List (Fact Term)) (row : List ℕ) : Type 0 where
  pub placed : ArePlaced all pairs events hypotheses row
  pub first : (other : List ℕ) → ArePlaced all pairs events hypotheses other → ComesBefore other row → ⊥
