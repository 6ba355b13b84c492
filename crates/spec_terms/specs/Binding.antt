-- Bindings: a finite map from variables to terms together with its history, the newest binding first
-- (the triangular form of a substitution, as in Baader and Snyder 2001).
use Rattle.std.specs.Prelude.{◌≡◌, ℕ, IsTrue, cond, nat_eq, Option, Some, None, List, [], ◌∷◌}
use Rattle.spec_trees.specs.Tree.{Leaf, bind, after}
use Rattle.spec_terms.specs.Term.{Term, Subst, has_var}
use Rattle.spec_terms.specs.Unifier.{Unifies, IsMostGeneral}

pub record Binding : Type 0 where
  pub var : ℕ
  pub to : Term

-- the term that x is bound to, if it is bound
abbrev pub bound_to : List Binding → ℕ → Option Term
bound_to [] x = None
bound_to (b ∷ bs) x = cond (nat_eq x b.var) (Some b.to) (bound_to bs x)

-- no variable is bound twice
abbrev pub AreDistinct : List Binding → Type 0
AreDistinct [] = Unit {0}
AreDistinct (b ∷ bs) = (bound_to bs b.var ≡ None) × AreDistinct bs

-- x is bound to a term in which y stands, or in which a variable stands that leads to y
pub data Leads (bs : List Binding) : ℕ → ℕ → Type 0 where
  directly : {x y : ℕ} {t : Term} → bound_to bs x ≡ Some t → IsTrue (has_var y t) → Leads bs x y
  by_way_of : {x y z : ℕ} {t : Term} → bound_to bs x ≡ Some t → IsTrue (has_var y t) → Leads bs y z → Leads bs x z

-- each variable is bound once at most, and none leads back to itself
pub record NeverLeadsBack (bs : List Binding) : Type 0 where
  pub once : AreDistinct bs
  pub never : (x : ℕ) → Leads bs x x → ⊥

-- each variable has with s the term that its binding has
abbrev pub Solves : Subst → List Binding → Type 0
Solves s [] = Unit {0}
Solves s (b ∷ bs) = (s b.var ≡ bind s b.to) × Solves s bs

-- only x is replaced
abbrev pub only : ℕ → Term → Subst
only x t y = cond (nat_eq x y) t (Leaf y)

-- What the bindings stand for: what each variable is after all replacements, the newest binding last.
abbrev pub resolved : List Binding → Subst
resolved [] = Leaf
resolved (b ∷ bs) = after (only b.var (bind (resolved bs) b.to)) (resolved bs)

-- each variable replaced once by its binding
abbrev pub replaced_once : List Binding → Subst
replaced_once [] = Leaf
replaced_once (b ∷ bs) = λ x. cond (nat_eq x b.var) b.to (replaced_once bs x)

-- s is most general among the unifiers that have the bindings
abbrev pub IsMguUnder : List Binding → Term → Term → Subst → Type 0
IsMguUnder bs a b s = IsMostGeneral (λ r. Solves r bs × Unifies r a b) s

-- s has for each bound variable exactly the term of its binding
abbrev pub Agrees : Subst → List Binding → Type 0
Agrees s [] = Unit {0}
Agrees s (b ∷ bs) = (s b.var ≡ b.to) × Agrees s bs
