-- Whether equations have a unifier is decided: each step of Robinson's algorithm takes away a variable, or makes
-- the equations smaller.
use Rattle.std.proofs.Common.{◌≡◌, ℕ, zero, suc, ◌+◌, ◌<◌, ◌≤◌, ◌⊎◌, Bool, true, false, not, ◌||◌, cond, nat_eq, List, [], ◌∷◌, ◌++◌, length, refl, sym, ap, ◌∙◌, inl, inr, arith, eqb-true}
use Rattle.std.specs.Prelude.{filter}
use Rattle.std.specs.List.{list_any}
use Rattle.std.proofs.lemmas.List.Folds.{list_any-append}
use Rattle.spec_trees.specs.Tree.{Trees, Leaf, Node, none, more, bind, binds, after, sizes, some_leaves}
use Rattle.spec_trees.proofs.Substitution.{binds-Leaf, bind-bind}
use Rattle.spec_trees.proofs.Measures.{size-positive}
use Rattle.spec_trees.proofs.Occurrence.{or_true}
use Rattle.spec_terms.specs.Term.{Sym, Term, Subst, has_var, same_symbol}
use Rattle.spec_terms.specs.Unifier.{Unifies, IsMgu}
use Rattle.spec_terms.specs.Binding.{only}
use Rattle.std.proofs.lemmas.Bool.{or_left, or_right}
use Rattle.spec_terms.proofs.Replace.{is_there, eqb_self, eqb_sym, only-self, only-other, only-absent, var_source}
use Rattle.spec_terms.proofs.Matches.{same_symbol-sound, same_symbol-refl}
use Rattle.spec_terms.proofs.Existence.{UnifiesAll, total, replaced, replaced-solved, after-solved, pairs, AreEven, even_rows, pairs-solved, solved-pairs, pairs-total, never_within, mgu_exists}

-- some substitution solves the equations, or none does
abbrev Decided : List (Term × Term) → Type 0
Decided es = ((u : Subst) × UnifiesAll u es) ⊎ ((u : Subst) → UnifiesAll u es → ⊥)

pub true_false : true ≡ false → ⊥
true_false e = cc

-- equations with the same solutions are decided alike
decided_alike : (es fs : List (Term × Term)) → ((u : Subst) → UnifiesAll u es → (r : Subst) × UnifiesAll r fs) → ((u : Subst) → UnifiesAll u fs → UnifiesAll u es) → Decided es → Decided fs
decided_alike es fs to from (inl h) = inl (to h.0 h.1)
decided_alike es fs to from (inr never) = inr (λ u h. never u (from u h))

-- each variable is in the list
abbrev IsAmong : List ℕ → Term → Type 0
IsAmong vs t = (y : ℕ) → has_var y t ≡ true → list_any (nat_eq y) vs ≡ true

abbrev AreAmong : List ℕ → Trees ℕ Sym → Type 0
AreAmong vs ts = (y : ℕ) → some_leaves (nat_eq y) ts ≡ true → list_any (nat_eq y) vs ≡ true

abbrev AllAmong : List ℕ → List (Term × Term) → Type 0
AllAmong vs [] = Unit {0}
AllAmong vs (e ∷ es) = IsAmong vs e.0 × IsAmong vs e.1 × AllAmong vs es

pairs-among : (vs : List ℕ) (xs ys : Trees ℕ Sym) (es : List (Term × Term)) → AreAmong vs xs → AreAmong vs ys → AllAmong vs es → AllAmong vs (pairs xs ys ++ es)
pairs-among vs none ys es a b c = c
pairs-among vs (more x xs) none es a b c = c
pairs-among vs (more x xs) (more y ys) es a b c = (
  λ z h. a z (or_left (has_var z x) (some_leaves (nat_eq z) xs) h),
  λ z h. b z (or_left (has_var z y) (some_leaves (nat_eq z) ys) h),
  pairs-among vs xs ys es (λ z h. a z (or_right (has_var z x) (some_leaves (nat_eq z) xs) h)) (λ z h. b z (or_right (has_var z y) (some_leaves (nat_eq z) ys) h)) c,
)

-- the list without x
abbrev without : ℕ → List ℕ → List ℕ
without x vs = filter (λ y. not (nat_eq x y)) vs

without-fewer : (x : ℕ) (vs : List ℕ) → length (without x vs) ≤ length vs
without-fewer x [] = omega arith
without-fewer x (y ∷ vs) = let fewer = without-fewer x vs in elim (nat_eq x y) as (λ b. length (cond (not b) (y ∷ without x vs) (without x vs)) ≤ suc (length vs)) [ true ↦ omega arith | false ↦ omega arith ]

without-less : (x : ℕ) (vs : List ℕ) → list_any (nat_eq x) vs ≡ true → length (without x vs) < length vs
without-less x [] h = absurd (let clash : false ≡ true = h in cc)
without-less x (y ∷ vs) h = go (nat_eq x y) h (without-less x vs) where
  go : (b : Bool) → (b || list_any (nat_eq x) vs) ≡ true → (list_any (nat_eq x) vs ≡ true → length (without x vs) < length vs) → length (cond (not b) (y ∷ without x vs) (without x vs)) < suc (length vs)
  go true h below = let fewer = without-fewer x vs in omega arith
  go false h below = let less = below h in omega arith

without-others : (x y : ℕ) (vs : List ℕ) → nat_eq x y ≡ false → list_any (nat_eq y) vs ≡ true → list_any (nat_eq y) (without x vs) ≡ true
without-others x y [] apart h = h
without-others x y (v ∷ vs) apart h = go (nat_eq x v) refl (without-others x y vs apart) where
  other : nat_eq x v ≡ true → list_any (nat_eq y) vs ≡ true
  other e =
      let same : x ≡ v = eqb-true x v e in
      let no_more : nat_eq y v ≡ false = ap (nat_eq y) (sym same) ∙ eqb_sym x y apart in
      ap (λ b. b || list_any (nat_eq y) vs) (sym no_more) ∙ h

  go : (b : Bool) → nat_eq x v ≡ b → (list_any (nat_eq y) vs ≡ true → list_any (nat_eq y) (without x vs) ≡ true) → list_any (nat_eq y) (cond (not b) (v ∷ without x vs) (without x vs)) ≡ true
  go true e below = below (other e)
  go false e below = elim (or_true (nat_eq y v) (list_any (nat_eq y) vs) h) [
    | inl here ↦ or_left (nat_eq y v) (list_any (nat_eq y) (without x vs)) here
    | inr later ↦ or_right (nat_eq y v) (list_any (nat_eq y) (without x vs)) (below later)
  ]

-- where x is replaced by a term without it, it is gone
replaced-among_one : (vs : List ℕ) (x : ℕ) (t a : Term) → has_var x t ≡ false → IsAmong vs t → IsAmong vs a → IsAmong (without x vs) (bind (only x t) a)
replaced-among_one vs x t a absent b c y h =
    let (z, there, found) = var_source (only x t) y a h in go z there found (is_there (nat_eq x z)) where
      go : (z : ℕ) → has_var z a ≡ true → has_var y (only x t z) ≡ true → (nat_eq x z ≡ true) ⊎ (nat_eq x z ≡ false) → list_any (nat_eq y) (without x vs) ≡ true
      go z there found (inl same) =
          let put : only x t z ≡ t = ap (only x t) (sym (eqb-true x z same)) ∙ only-self x t in
          let within : has_var y t ≡ true = ap (has_var y) (sym put) ∙ found in
          without-others x y vs (apart_from within (is_there (nat_eq x y))) (b y within) where
            apart_from : has_var y t ≡ true → (nat_eq x y ≡ true) ⊎ (nat_eq x y ≡ false) → nat_eq x y ≡ false
            apart_from within (inr apart) = apart
            apart_from within (inl e) = let also : has_var x t ≡ true = ap (λ v. has_var v t) (eqb-true x y e) ∙ within in cc
      go z there found (inr other) =
          let kept : only x t z ≡ Leaf z = only-other x t z other in
          let same : y ≡ z = eqb-true y z (ap (has_var y) (sym kept) ∙ found) in
          without-others x y vs (ap (nat_eq x) same ∙ other) (ap (λ v. list_any (nat_eq v) vs) same ∙ c z there)

replaced-among : (vs : List ℕ) (x : ℕ) (t : Term) (es : List (Term × Term)) → has_var x t ≡ false → IsAmong vs t → AllAmong vs es → AllAmong (without x vs) (replaced x t es)
replaced-among vs x t [] absent b c = tt
replaced-among vs x t (e ∷ es) absent b c = (replaced-among_one vs x t e.0 absent b c.0, replaced-among_one vs x t e.1 absent b c.1, replaced-among vs x t es absent b c.2)

-- an equation for a variable that does not stand in its term
solve_variable : (x : ℕ) (t : Term) (es : List (Term × Term)) → has_var x t ≡ false → Decided (replaced x t es) → Decided ((Leaf x, t) ∷ es)
solve_variable x t es absent d =
    decided_alike (replaced x t es) ((Leaf x, t) ∷ es)
    (λ u h. (after u (only x t), (ap (bind u) (only-self x t) ∙ (sym (ap (bind u) (only-absent x t t absent)) ∙ bind-bind u (only x t) t), after-solved u x t es h)))
    (λ u h. replaced-solved u x t h.0 es h.1) d

-- rows have as many terms or not
even : (xs ys : Trees ℕ Sym) → AreEven xs ys ⊎ (AreEven xs ys → ⊥)
even none none = inl tt
even none (more y ys) = inr (λ e. e)
even (more x xs) none = inr (λ e. e)
even (more x xs) (more y ys) = even xs ys

-- what is decided of equations over fewer variables than k, and over vs of those that are smaller
abbrev DecidesBelow : ℕ → Type 0
DecidesBelow k = (vs : List ℕ) → length vs < k → (es : List (Term × Term)) → AllAmong vs es → Decided es

abbrev DecidesSmall : List ℕ → ℕ → Type 0
DecidesSmall vs n = (es : List (Term × Term)) → AllAmong vs es → total Leaf es ≤ n → Decided es

without_variable : (vs : List ℕ) → DecidesBelow (length vs) → (x : ℕ) (t : Term) (es : List (Term × Term)) → list_any (nat_eq x) vs ≡ true → IsAmong vs t → AllAmong vs es → has_var x t ≡ false → Decided ((Leaf x, t) ∷ es)
without_variable vs below x t es here b c absent = solve_variable x t es absent (below (without x vs) (without-less x vs here) (replaced x t es) (replaced-among vs x t es absent b c))

variable_first : (vs : List ℕ) (n : ℕ) → DecidesBelow (length vs) → DecidesSmall vs n → (x : ℕ) (b : Term) (es : List (Term × Term)) → AllAmong vs ((Leaf x, b) ∷ es) → total Leaf es ≤ n → Decided ((Leaf x, b) ∷ es)
variable_first vs n below small x (Leaf y) es a few = elim (is_there (nat_eq x y)) as (λ _. Decided ((Leaf x, Leaf y) ∷ es)) [
  | inl same ↦ decided_alike es ((Leaf x, Leaf y) ∷ es) (λ u h. (u, (ap u (eqb-true x y same), h))) (λ u h. h.1) (small es a.2 few)
  | inr other ↦ without_variable vs below x (Leaf y) es (a.0 x (eqb_self x)) a.1 a.2 other
]
variable_first vs n below small x (Node f args) es a few = elim (is_there (has_var x (Node f args))) as (λ _. Decided ((Leaf x, Node f args) ∷ es)) [
  | inl within ↦ inr (λ u h. let absent = never_within u x f args h.0 in let there = within in absurd (true_false (sym there ∙ absent)))
  | inr absent ↦ without_variable vs below x (Node f args) es (a.0 x (eqb_self x)) a.1 a.2 absent
]

symbols_first : (vs : List ℕ) (n : ℕ) → DecidesSmall vs n → (f g : Sym) (xs ys : Trees ℕ Sym) (es : List (Term × Term)) → AllAmong vs ((Node f xs, Node g ys) ∷ es) → sizes xs + total Leaf es ≤ n → Decided ((Node f xs, Node g ys) ∷ es)
symbols_first vs n small f g xs ys es a few = go (is_there (same_symbol f g)) (even xs ys) where
  go : (same_symbol f g ≡ true) ⊎ (same_symbol f g ≡ false) → AreEven xs ys ⊎ (AreEven xs ys → ⊥) → Decided ((Node f xs, Node g ys) ∷ es)
  go (inr other) e = inr (λ u h. let same : f ≡ g = (let q = h.0 in cc) in true_false (sym (ap (same_symbol f) (sym same) ∙ same_symbol-refl f) ∙ other))
  go (inl same) (inr uneven) = inr (λ u h. let rows : binds u xs ≡ binds u ys = (let q = h.0 in cc) in uneven (even_rows u xs ys rows))
  go (inl same) (inl e) =
      let one : f ≡ g = same_symbol-sound f g same in
      decided_alike (pairs xs ys ++ es) ((Node f xs, Node g ys) ∷ es)
      (λ u h. let parts = solved-pairs u xs ys es e h in let row = parts.0 in (u, (cc, parts.1)))
      (λ u h. let row : binds u xs ≡ binds u ys = (let q = h.0 in cc) in pairs-solved u xs ys es row h.1)
      (small (pairs xs ys ++ es) (pairs-among vs xs ys es a.0 a.1 a.2) (let fewer = pairs-total Leaf xs ys es in let own = ap sizes (binds-Leaf xs) in omega arith))

decide_sized : (vs : List ℕ) → DecidesBelow (length vs) → (n : ℕ) → DecidesSmall vs n
decide_sized vs below n [] a few = inl (Leaf, tt)
decide_sized vs below zero ((b, c) ∷ es) a few = let some = size-positive (bind Leaf b) in absurd (omega arith)
decide_sized vs below (suc n) ((Leaf x, c) ∷ es) a few = variable_first vs n below (decide_sized vs below n) x c es a (omega arith)
decide_sized vs below (suc n) ((Node f xs, Leaf y) ∷ es) a few =
    decided_alike ((Leaf y, Node f xs) ∷ es) ((Node f xs, Leaf y) ∷ es) (λ u h. (u, (sym h.0, h.1))) (λ u h. (sym h.0, h.1))
    (variable_first vs n below (decide_sized vs below n) y (Node f xs) es (a.1, a.0, a.2) (omega arith))
decide_sized vs below (suc n) ((Node f xs, Node g ys) ∷ es) a few = symbols_first vs n (decide_sized vs below n) f g xs ys es a (let own = ap sizes (binds-Leaf xs) in omega arith)

decide_among : (k : ℕ) → DecidesBelow k
decide_among zero vs l es a = absurd (omega arith)
decide_among (suc k) vs l es a = decide_sized vs (λ us m. decide_among k us (omega arith)) (total Leaf es) es a (omega arith)

-- the variables of a term
abbrev mutual
  variables : Term → List ℕ
  variables (Leaf x) = x ∷ []
  variables (Node f args) = row_variables args

  row_variables : Trees ℕ Sym → List ℕ
  row_variables none = []
  row_variables (more t ts) = variables t ++ row_variables ts

mutual
  among_variables : (t : Term) → IsAmong (variables t) t
  among_variables (Leaf x) y h = or_left (nat_eq y x) false h
  among_variables (Node f args) y h = among_row_variables args y h

  among_row_variables : (ts : Trees ℕ Sym) → AreAmong (row_variables ts) ts
  among_row_variables none y h = h
  among_row_variables (more t ts) y h = elim (or_true (has_var y t) (some_leaves (nat_eq y) ts) h) [
    | inl here ↦ list_any-append (nat_eq y) (variables t) (row_variables ts) ∙ or_left (list_any (nat_eq y) (variables t)) (list_any (nat_eq y) (row_variables ts)) (among_variables t y here)
    | inr later ↦ list_any-append (nat_eq y) (variables t) (row_variables ts) ∙ or_right (list_any (nat_eq y) (variables t)) (list_any (nat_eq y) (row_variables ts)) (among_row_variables ts y later)
  ]

pub unification_decided : (a b : Term) → ((s : Subst) × IsMgu a b s) ⊎ ((s : Subst) → Unifies s a b → ⊥)
unification_decided a b = go (decide_among (suc (length vs)) vs (omega arith) ((a, b) ∷ []) (left, right, tt)) where
  vs : List ℕ
  vs = variables a ++ variables b

  left : IsAmong vs a
  left y h = list_any-append (nat_eq y) (variables a) (variables b) ∙ or_left (list_any (nat_eq y) (variables a)) (list_any (nat_eq y) (variables b)) (among_variables a y h)

  right : IsAmong vs b
  right y h = list_any-append (nat_eq y) (variables a) (variables b) ∙ or_right (list_any (nat_eq y) (variables a)) (list_any (nat_eq y) (variables b)) (among_variables b y h)

  go : Decided ((a, b) ∷ []) → ((s : Subst) × IsMgu a b s) ⊎ ((s : Subst) → Unifies s a b → ⊥)
  go (inl h) = inl (mgu_exists a b h.0 h.1.0)
  go (inr never) = inr (λ s e. never s (e, tt))
