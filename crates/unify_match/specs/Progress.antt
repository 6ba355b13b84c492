-- How far a unification has come, and why it ends.
use Rattle.std.specs.Prelude.{◌≡◌, ◌↔◌, ℕ, ◌+◌, ◌*◌, ◌≤◌, max, zero, suc, ◌||◌, cond, is_some, None, List, [], ◌∷◌, length}
use Rattle.std.specs.List.{list_any}
use Rattle.spec_trees.specs.Tree.{Trees, Leaf, Node, none, more, depth}
use Rattle.spec_terms.specs.Term.{Sym, Term, Subst, has_var}
use Rattle.spec_terms.specs.Unifier.{Unifies, UnifiesAll, Matches, MatchesAll}
use Rattle.spec_terms.specs.Binding.{Solves, Agrees}
use Rattle.spec_terms.specs.Rank.{height, ranks}
use Rattle.term_tree.specs.Bank.{tree_at}
use Rattle.term_tree.specs.declared.bank.Id.{Id}
use Rattle.unify_match.specs.declared.bound.Bound.{Bound}
use Rattle.unify_match.specs.Trail.{Extends, id_of}
use Rattle.unify_match.specs.Seen.{seen}

-- how many leaves of a term are unbound variables
abbrev mutual
  pub open_in : List Bound → Term → ℕ
  open_in pairs (Leaf x) = cond (is_some (id_of pairs x)) 0 1
  open_in pairs (Node f args) = opens_in pairs args

  pub opens_in : List Bound → Trees ℕ Sym → ℕ
  opens_in pairs none = 0
  opens_in pairs (more t ts) = open_in pairs t + opens_in pairs ts

-- and how many in all the trees of a bank
abbrev pub open_leaves : List Term → List Bound → ℕ
open_leaves [] pairs = 0
open_leaves (t ∷ ts) pairs = open_in pairs t + open_leaves ts pairs

-- the depth of the deepest tree of a bank
abbrev pub deepest : List Term → ℕ
deepest [] = 0
deepest (t ∷ ts) = max (depth t) (deepest ts)

-- above the rank of each variable under n bindings to terms of depth m at most
abbrev pub ceiling : ℕ → ℕ → ℕ
ceiling m zero = 0
ceiling m (suc n) = 2 * ceiling m n + m + 1

-- what falls as two terms are unified: binding a variable leaves fewer to bind, and going down lowers the height
abbrev pub effort : List Term → List Bound → Term → ℕ
effort all pairs t = open_leaves all pairs * (ceiling (deepest all) (length pairs + open_leaves all pairs) + deepest all + 1) + height (ranks (seen all pairs)) t

-- the bindings are extended, and each new binding leaves one variable less to bind
pub record Grown (all : List Term) (old new : List Bound) : Type 0 where
  pub extends : Extends old new
  pub counted : length new + open_leaves all new ≤ length old + open_leaves all old

-- the solutions of the new bindings are those of the old that unify the two terms
abbrev pub HasSolutions : List Term → List Bound → List Bound → Term → Term → Type 0
HasSolutions all old new a b = (s : Subst) → Solves s (seen all new) ↔ (Solves s (seen all old) × Unifies s a b)

-- the same of two lists, item by item
abbrev pub HasAllSolutions : List Term → List Bound → List Bound → List Term → List Term → Type 0
HasAllSolutions all old new xs ys = (s : Subst) → Solves s (seen all new) ↔ (Solves s (seen all old) × UnifiesAll s xs ys)

-- the term is no bound variable, and not this variable
abbrev pub IsApart : List Term → List Bound → ℕ → Id → Type 0
IsApart all pairs x id = (y : ℕ) → tree_at all id ≡ Leaf y → (id_of pairs y ≡ None) × (x ≡ y → ⊥)

-- what matching has done: the variables of the general term are bound besides the old ones, and the
-- substitutions that have the new bindings are those that have the old and match
pub record HasMatches (all : List Term) (old new : List Bound) (general special : Term) : Type 0 where
  pub exactly : (x : ℕ) → is_some (id_of new x) ≡ (is_some (id_of old x) || has_var x general)
  pub only : (s : Subst) → Agrees s (seen all new) ↔ (Agrees s (seen all old) × Matches s general special)

-- the same of two lists, item by item
pub record HasAllMatches (all : List Term) (old now : List Bound) (generals specials : List Term) : Type 0 where
  pub exactly : (x : ℕ) → is_some (id_of now x) ≡ (is_some (id_of old x) || list_any (has_var x) generals)
  pub only : (s : Subst) → Agrees s (seen all now) ↔ (Agrees s (seen all old) × MatchesAll s generals specials)
