-- Where there is a unifier there is a most general one: Robinson's algorithm, which ends since the terms under
-- the unifier get smaller.
use Rattle.std.proofs.Common.{◌≡◌, ℕ, zero, suc, ◌+◌, ◌≤◌, ◌⊎◌, true, false, nat_eq, List, [], ◌∷◌, ◌++◌, refl, sym, ap, ◌∙◌, inl, inr, arith, eqb-true}
use Rattle.spec_trees.specs.Tree.{Trees, Leaf, Node, none, more, bind, binds, after, size, sizes}
use Rattle.spec_trees.proofs.Substitution.{bind-bind, bind-same}
use Rattle.spec_trees.proofs.Measures.{size-positive}
use Rattle.spec_trees.proofs.Occurrence.{leaf_below}
use Rattle.spec_terms.specs.Term.{Sym, Term, Subst, has_var}
use Rattle.spec_terms.specs.Unifier.{Unifies, IsMostGeneral, IsMgu}
use Rattle.spec_terms.specs.Binding.{only}
use Rattle.spec_terms.proofs.Replace.{is_there, only-self, only-absent, after_only}

-- a list of equations, and that s solves each
abbrev pub UnifiesAll : Subst → List (Term × Term) → Type 0
UnifiesAll s [] = Unit {0}
UnifiesAll s (e ∷ es) = Unifies s e.0 e.1 × UnifiesAll s es

-- the size of the left sides under u
abbrev pub total : Subst → List (Term × Term) → ℕ
total u [] = 0
total u (e ∷ es) = size (bind u e.0) + total u es

-- the equations with x replaced
abbrev pub replaced : ℕ → Term → List (Term × Term) → List (Term × Term)
replaced x t [] = []
replaced x t (e ∷ es) = (bind (only x t) e.0, bind (only x t) e.1) ∷ replaced x t es

through : (s : Subst) (x : ℕ) (t : Term) → s x ≡ bind s t → (a : Term) → bind s (bind (only x t) a) ≡ bind s a
through s x t e a = bind-bind s (only x t) a ∙ bind-same (after s (only x t)) s (after_only s x t e) a

pub replaced-solved : (s : Subst) (x : ℕ) (t : Term) → s x ≡ bind s t → (es : List (Term × Term)) → UnifiesAll s es → UnifiesAll s (replaced x t es)
replaced-solved s x t e [] h = tt
replaced-solved s x t e (q ∷ qs) h = (through s x t e q.0 ∙ (h.0 ∙ sym (through s x t e q.1)), replaced-solved s x t e qs h.1)

replaced-total : (s : Subst) (x : ℕ) (t : Term) → s x ≡ bind s t → (es : List (Term × Term)) → total s (replaced x t es) ≡ total s es
replaced-total s x t e [] = refl
replaced-total s x t e (q ∷ qs) = let first = ap size (through s x t e q.0) in let others = replaced-total s x t e qs in omega arith

pub after-solved : (s : Subst) (x : ℕ) (t : Term) (es : List (Term × Term)) → UnifiesAll s (replaced x t es) → UnifiesAll (after s (only x t)) es
after-solved s x t [] h = tt
after-solved s x t (q ∷ qs) h = (sym (bind-bind s (only x t) q.0) ∙ (h.0 ∙ bind-bind s (only x t) q.1), after-solved s x t qs h.1)

-- two rows of as many terms, item by item
abbrev pub pairs : Trees ℕ Sym → Trees ℕ Sym → List (Term × Term)
pairs none ys = []
pairs (more x xs) none = []
pairs (more x xs) (more y ys) = (x, y) ∷ pairs xs ys

abbrev pub AreEven : Trees ℕ Sym → Trees ℕ Sym → Type 0
AreEven none none = Unit {0}
AreEven none (more y ys) = ⊥
AreEven (more x xs) none = ⊥
AreEven (more x xs) (more y ys) = AreEven xs ys

pub even_rows : (u : Subst) (xs ys : Trees ℕ Sym) → binds u xs ≡ binds u ys → AreEven xs ys
even_rows u none none e = tt
even_rows u none (more y ys) e = cc
even_rows u (more x xs) none e = cc
even_rows u (more x xs) (more y ys) e = let others : binds u xs ≡ binds u ys = cc in even_rows u xs ys others

pub pairs-solved : (s : Subst) (xs ys : Trees ℕ Sym) (es : List (Term × Term)) → binds s xs ≡ binds s ys → UnifiesAll s es → UnifiesAll s (pairs xs ys ++ es)
pairs-solved s none ys es e h = h
pairs-solved s (more x xs) none es e h = cc
pairs-solved s (more x xs) (more y ys) es e h =
    let first : bind s x ≡ bind s y = cc in
    let others : binds s xs ≡ binds s ys = cc in (first, pairs-solved s xs ys es others h)

pub solved-pairs : (s : Subst) (xs ys : Trees ℕ Sym) (es : List (Term × Term)) → AreEven xs ys → UnifiesAll s (pairs xs ys ++ es) → (binds s xs ≡ binds s ys) × UnifiesAll s es
solved-pairs s none none es even h = (refl, h)
solved-pairs s none (more y ys) es even h = absurd even
solved-pairs s (more x xs) none es even h = absurd even
solved-pairs s (more x xs) (more y ys) es even h = let rest = solved-pairs s xs ys es even h.1 in let others = rest.0 in let first = h.0 in (cc, rest.1)

pub pairs-total : (u : Subst) (xs ys : Trees ℕ Sym) (es : List (Term × Term)) → total u (pairs xs ys ++ es) ≤ sizes (binds u xs) + total u es
pairs-total u none ys es = omega arith
pairs-total u (more x xs) none es = size_sum (size (bind u x) + sizes (binds u xs)) (total u es) where
  size_sum : (m n : ℕ) → n ≤ m + n
  size_sum m n = omega arith
pairs-total u (more x xs) (more y ys) es = omega (arith, pairs-total u xs ys es)

-- what is accepted the same has the same most general substitutions
same_most : (P Q : Subst → Type 0) → ((s : Subst) → P s → Q s) → ((s : Subst) → Q s → P s) → (s : Subst) → IsMostGeneral P s → IsMostGeneral Q s
same_most P Q to back s h = record { accepted = to s h.accepted; most = λ r q. h.most r (back r q) }

-- an equation for a variable that does not stand in its term
solve_var : (x : ℕ) (t : Term) (es : List (Term × Term)) → has_var x t ≡ false → (s : Subst) → IsMostGeneral (λ r. UnifiesAll r (replaced x t es)) s
    → IsMostGeneral (λ r. (r x ≡ bind r t) × UnifiesAll r es) (after s (only x t))
solve_var x t es absent s h = record {
  accepted = (ap (bind s) (only-self x t) ∙ (sym (ap (bind s) (only-absent x t t absent)) ∙ bind-bind s (only x t) t), after-solved s x t es h.accepted);
  most = λ r ok.
      let (q, factors) = h.most r (replaced-solved r x t ok.0 es ok.1) in
      (q, λ y. bind-bind q s (only x t y) ∙ (bind-same (after q s) r factors (only x t y) ∙ after_only r x t ok.0 y));
}

-- no variable is one with a symbol over it
pub never_within : (u : Subst) (x : ℕ) (f : Sym) (args : Trees ℕ Sym) → u x ≡ bind u (Node f args) → has_var x (Node f args) ≡ false
never_within u x f args e = go (is_there (has_var x (Node f args))) where
  go : (has_var x (Node f args) ≡ true) ⊎ (has_var x (Node f args) ≡ false) → has_var x (Node f args) ≡ false
  go (inr apart) = apart
  go (inl within) =
      let found = leaf_below (nat_eq x) u f args within in
      let var : x ≡ found.0 = eqb-true x found.0 found.1 in
      let below = found.2 in
      absurd (omega (arith, ap size (ap u var), ap size e))

-- of n steps each takes something from the size under the unifier
pub mgu_within : (n : ℕ) (u : Subst) (es : List (Term × Term)) → UnifiesAll u es → total u es ≤ n → (s : Subst) × IsMostGeneral (λ r. UnifiesAll r es) s
mgu_within n u [] h few = (Leaf, record { accepted = tt; most = λ r ok. (r, λ x. refl) })
mgu_within zero u ((a, b) ∷ es) h few = let some = size-positive (bind u a) in absurd (omega arith)
mgu_within (suc n) u ((Leaf x, b) ∷ es) h few = bind_first (λ qs. mgu_within n u qs) b h few where
  next : ((qs : List (Term × Term)) → UnifiesAll u qs → total u qs ≤ n → (s : Subst) × IsMostGeneral (λ r. UnifiesAll r qs) s) → (b : Term) → (u x ≡ bind u b) × UnifiesAll u es → size (u x) + total u es ≤ suc n → has_var x b ≡ false
      → (s : Subst) × IsMostGeneral (λ r. (r x ≡ bind r b) × UnifiesAll r es) s
  next below b h few absent =
      let some = size-positive (u x) in
      let (s, most) = below (replaced x b es) (replaced-solved u x b h.0 es h.1) (omega (arith, replaced-total u x b h.0 es)) in
      (after s (only x b), solve_var x b es absent s most)

  bind_first : ((qs : List (Term × Term)) → UnifiesAll u qs → total u qs ≤ n → (s : Subst) × IsMostGeneral (λ r. UnifiesAll r qs) s) → (b : Term) → (u x ≡ bind u b) × UnifiesAll u es → size (u x) + total u es ≤ suc n
      → (s : Subst) × IsMostGeneral (λ r. (r x ≡ bind r b) × UnifiesAll r es) s
  bind_first below (Leaf y) h few = elim (is_there (nat_eq x y)) as (λ _. (s : Subst) × IsMostGeneral (λ r. (r x ≡ bind r (Leaf y)) × UnifiesAll r es) s) [
    | inl same ↦ (let some = size-positive (u x) in
        let (s, most) = below es h.1 (omega arith) in
        (s, same_most (λ r. UnifiesAll r es) (λ r. (r x ≡ r y) × UnifiesAll r es) (λ r ok. (ap r (eqb-true x y same), ok)) (λ r ok. ok.1) s most))
    | inr other ↦ next below (Leaf y) h few other
  ]
  bind_first below (Node g ys) h few = next below (Node g ys) h few (never_within u x g ys h.0)
mgu_within (suc n) u ((Node f xs, Leaf y) ∷ es) h few =
    let some = size-positive (u y) in
    let absent = never_within u y f xs (sym h.0) in
    let (s, most) = mgu_within n u (replaced y (Node f xs) es) (replaced-solved u y (Node f xs) (sym h.0) es h.1) (omega (arith, replaced-total u y (Node f xs) (sym h.0) es)) in
    (after s (only y (Node f xs)), same_most (λ r. (r y ≡ bind r (Node f xs)) × UnifiesAll r es) (λ r. (bind r (Node f xs) ≡ r y) × UnifiesAll r es) (λ r ok. (sym ok.0, ok.1)) (λ r ok. (sym ok.0, ok.1)) (after s (only y (Node f xs))) (solve_var y (Node f xs) es absent s most))
mgu_within (suc n) u ((Node f xs, Node g ys) ∷ es) h few =
    let same : f ≡ g = let e = h.0 in cc in
    let rows : binds u xs ≡ binds u ys = let e = h.0 in cc in
    let even = even_rows u xs ys rows in
    let (s, most) = mgu_within n u (pairs xs ys ++ es) (pairs-solved u xs ys es rows h.1) (omega (arith, pairs-total u xs ys es)) in (
      s,
      same_most (λ r. UnifiesAll r (pairs xs ys ++ es)) (λ r. (bind r (Node f xs) ≡ bind r (Node g ys)) × UnifiesAll r es)
          (λ r ok. let parts = solved-pairs r xs ys es even ok in let row = parts.0 in (cc, parts.1))
          (λ r ok. let row : binds r xs ≡ binds r ys = (let e = ok.0 in cc) in pairs-solved r xs ys es row ok.1) s most,
    )

pub mgu_exists : (a b : Term) (u : Subst) → Unifies u a b → (s : Subst) × IsMgu a b s
mgu_exists a b u h =
    let (s, most) = mgu_within (size (bind u a)) u ((a, b) ∷ []) (h, tt) (omega arith) in
    (s, same_most (λ r. Unifies r a b × Unit {0}) (λ r. Unifies r a b) (λ r ok. ok.0) (λ r ok. (ok, tt)) s most)
