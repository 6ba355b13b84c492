-- What bindings stand for solves them, and each solution factors through it.
use Rattle.std.proofs.Common.{◌≡◌, ℕ, Bool, true, false, nat_eq, Some, None, List, [], ◌∷◌, refl, sym, ap, subst, ◌∙◌, eqb-true}
use Rattle.spec_trees.specs.Tree.{Leaf, bind, after}
use Rattle.spec_trees.proofs.Substitution.{bind-bind, bind-same}
use Rattle.spec_trees.proofs.Occurrence.{some_leaf-bind, some_leaf-never, some_leaf-same}
use Rattle.spec_terms.specs.Term.{Term, Subst, has_var}
use Rattle.spec_terms.specs.Unifier.{IsMostGeneral}
use Rattle.spec_terms.specs.Binding.{Binding, bound_to, Solves, only, resolved}
use Rattle.spec_terms.proofs.Replace.{some_none, some_same, only-self, only-other, only-absent, after_only, eqb_sym}

-- each binding is of an unbound variable, to a term that does not lead to it
abbrev pub IsSound : List Binding → Type 0
IsSound [] = Unit {0}
IsSound (b ∷ bs) = (bound_to bs b.var ≡ None) × (has_var b.var (bind (resolved bs) b.to) ≡ false) × IsSound bs

-- a variable that is not bound first is bound later or not at all
pub bound_to-other : (b : Binding) (bs : List Binding) (x : ℕ) → nat_eq x b.var ≡ false → bound_to (b ∷ bs) x ≡ bound_to bs x
bound_to-other b bs x h = rw h refl

pub bound_to-newest : (b : Binding) (bs : List Binding) (x : ℕ) → nat_eq x b.var ≡ true → bound_to (b ∷ bs) x ≡ Some b.to
bound_to-newest b bs x h = rw h refl

-- a variable that is not bound stands for itself
pub resolved-unbound : (bs : List Binding) (x : ℕ) → bound_to bs x ≡ None → resolved bs x ≡ Leaf x
resolved-unbound [] x h = refl
resolved-unbound (b ∷ bs) x h = go (resolved-unbound bs x) (nat_eq x b.var) refl where
  go : (bound_to bs x ≡ None → resolved bs x ≡ Leaf x) → (c : Bool) → nat_eq x b.var ≡ c → bind (only b.var (bind (resolved bs) b.to)) (resolved bs x) ≡ Leaf x
  go older true same = absurd (some_none (sym (bound_to-newest b bs x same) ∙ h))
  go older false other =
      let is : resolved bs x ≡ Leaf x = older (sym (bound_to-other b bs x other) ∙ h) in
      ap (bind (only b.var (bind (resolved bs) b.to))) is ∙ only-other b.var (bind (resolved bs) b.to) x (eqb_sym x b.var other)

-- each solution makes of what a variable stands for what it has for the variable
pub resolved-factor : (s : Subst) (bs : List Binding) → Solves s bs → (x : ℕ) → bind s (resolved bs x) ≡ s x
resolved-factor s [] h x = refl
resolved-factor s (b ∷ bs) h x =
    let under : bind s (bind (resolved bs) b.to) ≡ bind s b.to = bind-bind s (resolved bs) b.to ∙ bind-same (after s (resolved bs)) s (resolved-factor s bs h.1) b.to in
    bind-bind s (only b.var (bind (resolved bs) b.to)) (resolved bs x)
    ∙ (bind-same (after s (only b.var (bind (resolved bs) b.to))) s (after_only s b.var (bind (resolved bs) b.to) (h.0 ∙ sym under)) (resolved bs x) ∙ resolved-factor s bs h.1 x)

-- the same of a whole term
pub bind-resolved : (s : Subst) (bs : List Binding) → Solves s bs → (t : Term) → bind s (bind (resolved bs) t) ≡ bind s t
bind-resolved s bs h t = bind-bind s (resolved bs) t ∙ bind-same (after s (resolved bs)) s (resolved-factor s bs h) t

-- what follows a solution solves too
pub Solves-after : (q s : Subst) (bs : List Binding) → Solves s bs → Solves (after q s) bs
Solves-after q s [] h = tt
Solves-after q s (b ∷ bs) h = (ap (bind q) h.0 ∙ bind-bind q s b.to, Solves-after q s bs h.1)

-- what sound bindings stand for solves them
pub resolved-solves : (bs : List Binding) → IsSound bs → Solves (resolved bs) bs
resolved-solves [] h = tt
resolved-solves (b ∷ bs) h =
    let term = bind (resolved bs) b.to in
    let left : resolved (b ∷ bs) b.var ≡ term = ap (bind (only b.var term)) (resolved-unbound bs b.var h.0) ∙ only-self b.var term in
    let right : bind (resolved (b ∷ bs)) b.to ≡ term = sym (bind-bind (only b.var term) (resolved bs) b.to) ∙ only-absent b.var term term h.1 in
    (left ∙ sym right, Solves-after (only b.var term) (resolved bs) bs (resolved-solves bs h.2))

-- a solution has for a bound variable what it makes of its binding
pub Solves-at : (s : Subst) (bs : List Binding) (x : ℕ) (t : Term) → Solves s bs → bound_to bs x ≡ Some t → s x ≡ bind s t
Solves-at s [] x t h e = absurd (some_none (sym e))
Solves-at s (b ∷ bs) x t h e = go (Solves-at s bs x t h.1) (nat_eq x b.var) refl where
  go : (bound_to bs x ≡ Some t → s x ≡ bind s t) → (c : Bool) → nat_eq x b.var ≡ c → s x ≡ bind s t
  go older true same = ap s (eqb-true x b.var same) ∙ (h.0 ∙ ap (bind s) (some_same (sym (bound_to-newest b bs x same) ∙ e)))
  go older false other = older (sym (bound_to-other b bs x other) ∙ e)

-- only replaces nothing where the variable is none of what it asks for
only-has : (x b : ℕ) (u : Term) → has_var x u ≡ false → nat_eq x b ≡ false → (z : ℕ) → has_var x (only b u z) ≡ nat_eq x z
only-has x b u absent differ z = go (nat_eq b z) refl where
  go : (c : Bool) → nat_eq b z ≡ c → has_var x (only b u z) ≡ nat_eq x z
  go true same = let is : b ≡ z = eqb-true b z same in ap (has_var x) (ap (only b u) (sym is) ∙ only-self b u) ∙ (absent ∙ (sym differ ∙ ap (nat_eq x) is))
  go false other = ap (has_var x) (only-other b u z other)

-- and of a variable itself nothing is left
only-gone : (b : ℕ) (u : Term) → has_var b u ≡ false → (z : ℕ) → has_var b (only b u z) ≡ false
only-gone b u absent z = go (nat_eq b z) refl where
  go : (c : Bool) → nat_eq b z ≡ c → has_var b (only b u z) ≡ false
  go true same = let is : b ≡ z = eqb-true b z same in ap (has_var b) (ap (only b u) (sym is) ∙ only-self b u) ∙ absent
  go false other = ap (has_var b) (only-other b u z other) ∙ other

-- what a term stands for has none of the variables that nothing that is put in has
bind-free : (x : ℕ) (s : Subst) → ((y : ℕ) → has_var x (s y) ≡ false) → (t : Term) → has_var x (bind s t) ≡ false
bind-free x s absent t = some_leaf-bind (nat_eq x) s t ∙ some_leaf-never (λ y. has_var x (s y)) absent t

-- no bound variable stands in what sound bindings stand for
pub resolved-free : (bs : List Binding) → IsSound bs → (x : ℕ) (t : Term) → bound_to bs x ≡ Some t → (y : ℕ) → has_var x (resolved bs y) ≡ false
resolved-free [] sound x t e y = absurd (some_none (sym e))
resolved-free (b ∷ bs) sound x t e y = go (resolved-free bs sound.2 x t) (nat_eq x b.var) refl where
  go : (bound_to bs x ≡ Some t → (z : ℕ) → has_var x (resolved bs z) ≡ false) → (c : Bool) → nat_eq x b.var ≡ c → has_var x (resolved (b ∷ bs) y) ≡ false
  go older true same =
      let is : b.var ≡ x = sym (eqb-true x b.var same) in
      subst (λ (v : ℕ). has_var v (resolved (b ∷ bs) y) ≡ false) is
      (bind-free b.var (only b.var (bind (resolved bs) b.to)) (only-gone b.var (bind (resolved bs) b.to) sound.1) (resolved bs y))
  go older false other =
      let free = older (sym (bound_to-other b bs x other) ∙ e) in
      some_leaf-bind (nat_eq x) (only b.var (bind (resolved bs) b.to)) (resolved bs y)
      ∙ (some_leaf-same (λ z. has_var x (only b.var (bind (resolved bs) b.to) z)) (nat_eq x) (only-has x b.var (bind (resolved bs) b.to) (bind-free x (resolved bs) free b.to) other) (resolved bs y)
      ∙ free y)

-- where the solutions of sound bindings are those that P accepts, what they stand for is most general
pub resolved-most_general : (P : Subst → Type 0) (bs : List Binding) → IsSound bs → ((s : Subst) → (Solves s bs → P s) × (P s → Solves s bs)) → IsMostGeneral P (resolved bs)
resolved-most_general P bs sound exactly = record {
  accepted = (exactly (resolved bs)).0 (resolved-solves bs sound);
  most = λ r accepted. (r, resolved-factor r bs ((exactly r).1 accepted));
}
