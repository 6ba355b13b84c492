-- What unification and matching answer.
use Rattle.std.specs.Prelude.{◌≡◌, ◌↔◌, ℕ, ◌||◌, is_some, List}
use Rattle.std.specs.List.{list_any}
use Rattle.spec_terms.specs.Term.{Term, Subst, has_var}
use Rattle.spec_terms.specs.Unifier.{Unifies, UnifiesAll, IsMostGeneral, Matches, MatchesAll}
use Rattle.spec_terms.specs.Binding.{Solves, Agrees, resolved, replaced_once, IsMguUnder}
use Rattle.unify_match.specs.declared.bound.Bound.{Bound}
use Rattle.unify_match.specs.Trail.{Extends, id_of}
use Rattle.unify_match.specs.Seen.{seen}

-- The bindings are extended, what they stand for is a most general unifier of the two terms under the old
-- bindings, and the solutions of the new bindings are exactly the solutions of the old that unify the two.
pub record Unified (all : List Term) (old new : List Bound) (a b : Term) : Type 0 where
  pub extends : Extends old new
  pub mgu : IsMguUnder (seen all old) a b (resolved (seen all new))
  pub solutions : (s : Subst) → Solves s (seen all new) ↔ (Solves s (seen all old) × Unifies s a b)

-- no solution of the bindings unifies the two terms
abbrev pub NoUnifier : List Term → List Bound → Term → Term → Type 0
NoUnifier all pairs a b = (s : Subst) → Solves s (seen all pairs) → Unifies s a b → ⊥

-- The same of two lists of terms, which are unified item by item.
pub record UnifiedAll (all : List Term) (old new : List Bound) (xs ys : List Term) : Type 0 where
  pub extends : Extends old new
  pub mgu : IsMostGeneral (λ r. Solves r (seen all old) × UnifiesAll r xs ys) (resolved (seen all new))
  pub solutions : (s : Subst) → Solves s (seen all new) ↔ (Solves s (seen all old) × UnifiesAll s xs ys)

-- no solution of the bindings unifies the two lists
abbrev pub NoUnifierOfAll : List Term → List Bound → List Term → List Term → Type 0
NoUnifierOfAll all pairs xs ys = (s : Subst) → Solves s (seen all pairs) → UnifiesAll s xs ys → ⊥

-- The bindings are extended by exactly the variables of the general term that were not bound, to a match:
-- each variable replaced once by its binding, the general term is the special one, whose variables stand for
-- themselves. And no other substitution that has the old bindings matches.
pub record Matched (all : List Term) (old new : List Bound) (general special : Term) : Type 0 where
  pub extends : Extends old new
  pub exactly : (x : ℕ) → is_some (id_of new x) ≡ (is_some (id_of old x) || has_var x general)
  pub is_match : Matches (replaced_once (seen all new)) general special
  pub only : (s : Subst) → Agrees s (seen all new) ↔ (Agrees s (seen all old) × Matches s general special)

-- no substitution that has the bindings matches
abbrev pub NoMatch : List Term → List Bound → Term → Term → Type 0
NoMatch all pairs general special = (s : Subst) → Agrees s (seen all pairs) → Matches s general special → ⊥

-- The same of two lists of terms, which are matched item by item.
pub record MatchedAll (all : List Term) (old new : List Bound) (generals specials : List Term) : Type 0 where
  pub extends : Extends old new
  pub exactly : (x : ℕ) → is_some (id_of new x) ≡ (is_some (id_of old x) || list_any (has_var x) generals)
  pub is_match : MatchesAll (replaced_once (seen all new)) generals specials
  pub only : (s : Subst) → Agrees s (seen all new) ↔ (Agrees s (seen all old) × MatchesAll s generals specials)

-- no substitution that has the bindings matches the two lists
abbrev pub NoMatchOfAll : List Term → List Bound → List Term → List Term → Type 0
NoMatchOfAll all pairs generals specials = (s : Subst) → Agrees s (seen all pairs) → MatchesAll s generals specials → ⊥
