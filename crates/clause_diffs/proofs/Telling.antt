-- Bindings that have a variable for each of the clause's variables in a constraint, and none for two of them.
use Rattle.std.proofs.Common.{◌≡◌, ℕ, zero, suc, ◌+◌, ◌<◌, ◌≤◌, Bool, true, false, ◌||◌, ◌&&◌, cond, nat_eq, nat_lt, Some, None, List, [], ◌∷◌, ◌++◌, length, map, filter, take, get_or, refl, ap, sym, ◌∙◌, subst, eqb-true, eq-eqb, lt-ltb, arith}
use Rattle.std.specs.List.{list_any, IsDistinct, AllByRecursion}
use Rattle.std.proofs.lemmas.Bool.{or_left, or_right}
use Rattle.std.proofs.lemmas.List.{map-append, take_more, take_all}
use borrow.Author.Tests.{ltb-true}
use Rattle.spec_trees.specs.Tree.{Leaf, Node, node, bind}
use Rattle.spec_trees.proofs.Equality.{and_true}
use Rattle.spec_terms.specs.Term.{Sym, Term, Subst}
use Rattle.spec_terms.specs.Binding.{resolved}
use Rattle.spec_terms.specs.Rank.{ranks}
use Rattle.spec_terms.proofs.Replace.{eqb_self, eqb_sym}
use Rattle.spec_terms.proofs.Resolve.{resolved-unbound, Solves-at}
use Rattle.spec_terms.proofs.Ranks.{ranks-fall}
use Rattle.spec_clauses.specs.Diff.{diff_variables}
use Rattle.spec_clauses.specs.Distinct.{distinct}
use Rattle.spec_clauses.specs.Shown.{Shown, diff_shown, shown_variables, IsOwnIn, TellsApart}
use Rattle.spec_clauses.proofs.Distinct.{distinct-distinct, stands_distinct}
use Rattle.term_tree.specs.Bank.{tree_at}
use Rattle.term_tree.specs.declared.bank.Id.{Id}
use Rattle.unify_match.specs.declared.bound.Bound.{Bound}
use Rattle.unify_match.specs.Trail.{id_of}
use Rattle.unify_match.specs.Seen.{seen, IsReady}
use Rattle.unify_match.proofs.SeenLemmas.{bound_to-seen, bound_to-seen_none, IsReady-sound, IsReady-solves}
use Rattle.clause_diffs.specs.Telling.{variable_of}
use Rattle.clause_diffs.proofs.Shown.{shown-own}

-- What a variable stands for: itself where it isn't bound, what the next one stands for where it is bound to that, and else an
-- application.
pub unbound_stays : (all : List Term) (pairs : List Bound) (x : ℕ) → id_of pairs x ≡ None → variable_of (resolved (seen all pairs) x) ≡ Some x
unbound_stays all pairs x none = ap variable_of (resolved-unbound (seen all pairs) x (bound_to-seen_none all pairs x none))

leads_to : (all : List Term) (pairs : List Bound) (x : ℕ) (id : Id) → IsReady all pairs → id_of pairs x ≡ Some id → resolved (seen all pairs) x ≡ bind (resolved (seen all pairs)) (tree_at all id)
leads_to all pairs x id ready e = Solves-at (resolved (seen all pairs)) (seen all pairs) x (tree_at all id) (IsReady-solves all pairs ready) (bound_to-seen all pairs x id e)

pub next_same : (all : List Term) (pairs : List Bound) (x y : ℕ) (id : Id) → IsReady all pairs → id_of pairs x ≡ Some id → tree_at all id ≡ Leaf y → resolved (seen all pairs) y ≡ resolved (seen all pairs) x
next_same all pairs x y id ready e is = sym (leads_to all pairs x id ready e ∙ ap (bind (resolved (seen all pairs))) is)

pub next_lower : (all : List Term) (pairs : List Bound) (x y : ℕ) (id : Id) → IsReady all pairs → id_of pairs x ≡ Some id → tree_at all id ≡ Leaf y → ranks (seen all pairs) y < ranks (seen all pairs) x
next_lower all pairs x y id ready e is =
    let bs = seen all pairs in
    let falls = ranks-fall bs (IsReady-sound all pairs ready) x (Leaf y) (bound_to-seen all pairs x id e ∙ ap Some is) in falls

pub no_variable : (all : List Term) (pairs : List Bound) (x : ℕ) (id : Id) (f : Sym) (ts : List Term) → IsReady all pairs → id_of pairs x ≡ Some id → tree_at all id ≡ node f ts → variable_of (resolved (seen all pairs) x) ≡ None
no_variable all pairs x id f ts ready e is = ap variable_of (leads_to all pairs x id ready e ∙ ap (bind (resolved (seen all pairs))) is)

-- a term that is a variable
pub is_variable : (t : Term) (y : ℕ) → Some y ≡ variable_of t → t ≡ Leaf y
is_variable (Leaf x) y e = let same : y ≡ x = cc in ap Leaf (sym same)
is_variable (Node f args) y e = absurd (let clash = e in cc)

-- Whether a number stands among numbers that pass a test, among the first of numbers, and among those with one more.
stands_first : (x y : ℕ) (ys : List ℕ) → (nat_eq x y || list_any (nat_eq x) ys) ≡ true → (nat_eq x y ≡ false → list_any (nat_eq x) ys ≡ true)
stands_first x y ys stands other = sym (ap (λ b. b || list_any (nat_eq x) ys) other) ∙ stands

any_passing : (p : ℕ → Bool) (x : ℕ) (ys : List ℕ) → list_any (nat_eq x) (filter p ys) ≡ (p x && list_any (nat_eq x) ys)
any_passing p x [] = go (p x) where
  go : (b : Bool) → false ≡ (b && false)
  go true = refl
  go false = refl
any_passing p x (y ∷ ys) = go (nat_eq x y) (p y) refl refl (any_passing p x ys) where
  go : (a b : Bool) → nat_eq x y ≡ a → p y ≡ b → list_any (nat_eq x) (filter p ys) ≡ (p x && list_any (nat_eq x) ys) → list_any (nat_eq x) (cond b (y ∷ filter p ys) (filter p ys)) ≡ (p x && (a || list_any (nat_eq x) ys))
  go true true same passes others =
      let here : p x ≡ true = ap p (eqb-true x y same) ∙ passes in
      ap (λ a. a || list_any (nat_eq x) (filter p ys)) same ∙ sym (ap (λ b. b && true) here)
  go true false same passes others =
      let here : p x ≡ false = ap p (eqb-true x y same) ∙ passes in
      others ∙ (ap (λ b. b && list_any (nat_eq x) ys) here ∙ sym (ap (λ b. b && true) here))
  go false true same passes others = ap (λ a. a || list_any (nat_eq x) (filter p ys)) same ∙ others
  go false false same passes others = others

any_before : (x : ℕ) (ys : List ℕ) (i : ℕ) → list_any (nat_eq x) (take i ys) ≡ true → list_any (nat_eq x) ys ≡ true
any_before x ys zero e = cc
any_before x [] (suc i) e = e
any_before x (y ∷ ys) (suc i) e = go (nat_eq x y) e (any_before x ys i) where
  go : (b : Bool) → (b || list_any (nat_eq x) (take i ys)) ≡ true → (list_any (nat_eq x) (take i ys) ≡ true → list_any (nat_eq x) ys ≡ true) → (b || list_any (nat_eq x) ys) ≡ true
  go true e later = refl
  go false e later = later e

any_at : (ys : List ℕ) (i : ℕ) → i < length ys → list_any (nat_eq (get_or ys i 0)) ys ≡ true
any_at [] i within = absurd (omega arith)
any_at (y ∷ ys) zero within = or_left (nat_eq y y) (list_any (nat_eq y) ys) (eqb_self y)
any_at (y ∷ ys) (suc i) within = or_right (nat_eq (get_or ys i 0) y) (list_any (nat_eq (get_or ys i 0)) ys) (any_at ys i (omega arith))

any_more : (x y : ℕ) (xs : List ℕ) → list_any (nat_eq x) (xs ++ y ∷ []) ≡ true → (list_any (nat_eq x) xs ≡ false → x ≡ y)
any_more x y [] e none = go (nat_eq x y) refl e where
  go : (b : Bool) → nat_eq x y ≡ b → (b || false) ≡ true → x ≡ y
  go true same e = eqb-true x y same
  go false same e = cc
any_more x y (z ∷ xs) e none = go (nat_eq x z) e none (any_more x y xs) where
  go : (b : Bool) → (b || list_any (nat_eq x) (xs ++ y ∷ [])) ≡ true → (b || list_any (nat_eq x) xs) ≡ false → (list_any (nat_eq x) (xs ++ y ∷ []) ≡ true → list_any (nat_eq x) xs ≡ false → x ≡ y) → x ≡ y
  go true e none later = cc
  go false e none later = later e none

-- of different numbers, none stands among those before it
differ_at : (z : ℕ) (zs : List ℕ) (j : ℕ) → AllByRecursion (λ y. nat_eq z y ≡ false) zs → j < length zs → nat_eq z (get_or zs j 0) ≡ false
differ_at z [] j a within = absurd (omega arith)
differ_at z (y ∷ ys) zero a within = a.0
differ_at z (y ∷ ys) (suc j) a within = differ_at z ys j a.1 (omega arith)

fresh_at : (xs : List ℕ) (i : ℕ) → IsDistinct nat_eq xs → i < length xs → list_any (nat_eq (get_or xs i 0)) (take i xs) ≡ false
unfolding IsDistinct
fresh_at [] i apart within = absurd (omega arith)
fresh_at (z ∷ zs) zero apart within = refl
fresh_at (z ∷ zs) (suc j) apart within =
    ap (λ b. b || list_any (nat_eq (get_or zs j 0)) (take j zs)) (eqb_sym z (get_or zs j 0) (differ_at z zs j apart.0 (omega arith))) ∙ fresh_at zs j apart.1 (omega arith)

-- The clause's variables in a constraint are those in the list that its code goes along.
abbrev pub own_numbers : Shown → List ℕ
own_numbers d = distinct nat_eq (diff_variables (diff_shown d))

own_stands : (d : Shown) (x : ℕ) → list_any (nat_eq x) (own_numbers d) ≡ (nat_lt x d.first && list_any (nat_eq x) (shown_variables d))
own_stands d x =
    stands_distinct nat_eq (λ a b. (eqb-true a b, eq-eqb a b)) x (diff_variables (diff_shown d))
    ∙ (ap (list_any (nat_eq x)) (shown-own d) ∙ any_passing (λ y. nat_lt y d.first) x (shown_variables d))

own_in : (d : Shown) (x : ℕ) → list_any (nat_eq x) (own_numbers d) ≡ true → IsOwnIn d x
own_in d x stands =
    let parts = and_true (nat_lt x d.first) (list_any (nat_eq x) (shown_variables d)) (sym (own_stands d x) ∙ stands) in (ltb-true x d.first parts.0, parts.1)

in_own : (d : Shown) (x : ℕ) → IsOwnIn d x → list_any (nat_eq x) (own_numbers d) ≡ true
in_own d x is = own_stands d x ∙ (ap (λ b. b && list_any (nat_eq x) (shown_variables d)) (lt-ltb x d.first is.0) ∙ is.1)

-- Numbers for which s has variables, with these: different ones for different numbers.
pub record AreTold (s : Subst) (xs taken : List ℕ) : Type 0 where
  pub are : map s xs ≡ map Leaf taken
  pub apart : (x y : ℕ) → list_any (nat_eq x) xs ≡ true → list_any (nat_eq y) xs ≡ true → s x ≡ s y → x ≡ y

module _ (s : Subst) where
  one_leaf : {x y : ℕ} → ◌≡◌ {A = Term} (Leaf x) (Leaf y) → x ≡ y
  one_leaf e = cc

  -- what s has for one of the numbers is taken, and what is taken it has for one of them
  value_of : (y : ℕ) (xs taken : List ℕ) → map s xs ≡ map Leaf taken → list_any (nat_eq y) xs ≡ true → (v : ℕ) × (s y ≡ Leaf v)
  value_of y [] taken are stands = absurd (let clash = stands in cc)
  value_of y (x ∷ xs) [] are stands = absurd (let clash = are in cc)
  value_of y (x ∷ xs) (w ∷ ws) are stands =
      let here : s x ≡ Leaf w = cc in
      let rest : map s xs ≡ map Leaf ws = cc in
      go (nat_eq y x) refl here (λ later. value_of y xs ws rest later) where
        go : (b : Bool) → nat_eq y x ≡ b → s x ≡ Leaf w → (list_any (nat_eq y) xs ≡ true → (v : ℕ) × (s y ≡ Leaf v)) → (v : ℕ) × (s y ≡ Leaf v)
        go true same here later = (w, ap s (eqb-true y x same) ∙ here)
        go false other here later = later (stands_first y x xs stands other)

  is_taken : (y v : ℕ) (xs taken : List ℕ) → map s xs ≡ map Leaf taken → list_any (nat_eq y) xs ≡ true → s y ≡ Leaf v → list_any (nat_eq v) taken ≡ true
  is_taken y v [] taken are stands is = absurd (let clash = stands in cc)
  is_taken y v (x ∷ xs) [] are stands is = absurd (let clash = are in cc)
  is_taken y v (x ∷ xs) (w ∷ ws) are stands is =
      let here : s x ≡ Leaf w = cc in
      let rest : map s xs ≡ map Leaf ws = cc in
      go (nat_eq y x) refl here (λ later. is_taken y v xs ws rest later is) where
        go : (b : Bool) → nat_eq y x ≡ b → s x ≡ Leaf w → (list_any (nat_eq y) xs ≡ true → list_any (nat_eq v) ws ≡ true) → (nat_eq v w || list_any (nat_eq v) ws) ≡ true
        go true same here later = or_left (nat_eq v w) (list_any (nat_eq v) ws) (eq-eqb v w (one_leaf (sym is ∙ (ap s (eqb-true y x same) ∙ here))))
        go false other here later = or_right (nat_eq v w) (list_any (nat_eq v) ws) (later (stands_first y x xs stands other))

  owner_of : (v : ℕ) (xs taken : List ℕ) → map s xs ≡ map Leaf taken → list_any (nat_eq v) taken ≡ true → (y : ℕ) × (list_any (nat_eq y) xs ≡ true) × (s y ≡ Leaf v)
  owner_of v xs [] are has = absurd (let clash = has in cc)
  owner_of v [] (w ∷ ws) are has = absurd (let clash = are in cc)
  owner_of v (x ∷ xs) (w ∷ ws) are has =
      let here : s x ≡ Leaf w = cc in
      let rest : map s xs ≡ map Leaf ws = cc in
      go (nat_eq v w) refl here (λ later. owner_of v xs ws rest later) where
        go : (b : Bool) → nat_eq v w ≡ b → s x ≡ Leaf w → (list_any (nat_eq v) ws ≡ true → (y : ℕ) × (list_any (nat_eq y) xs ≡ true) × (s y ≡ Leaf v)) → (y : ℕ) × (list_any (nat_eq y) (x ∷ xs) ≡ true) × (s y ≡ Leaf v)
        go true same here later = (x, or_left (nat_eq x x) (list_any (nat_eq x) xs) (eqb_self x), here ∙ ap Leaf (sym (eqb-true v w same)))
        go false other here later = let found = later (stands_first v w ws has other) in (found.0, or_right (nat_eq found.0 x) (list_any (nat_eq found.0) xs) found.1, found.2)

  pub told_none : AreTold s [] []
  told_none = record { are = refl; apart = λ x y a b e. absurd (let clash = a in cc) }

  pub told_more : (xs taken : List ℕ) (x v : ℕ) → AreTold s xs taken → s x ≡ Leaf v → list_any (nat_eq v) taken ≡ false → AreTold s (xs ++ x ∷ []) (taken ++ v ∷ [])
  told_more xs taken x v was is free = record {
    are = map-append s xs (x ∷ []) ∙ ((λ i. was.are i ++ is i ∷ []) ∙ sym (map-append Leaf taken (v ∷ [])));
    apart = λ a b stands_a stands_b e. both a b stands_a stands_b e (list_any (nat_eq a) xs) (list_any (nat_eq b) xs) refl refl;
  } where
    never : (y : ℕ) → list_any (nat_eq y) xs ≡ true → s y ≡ s x → ⊥
    never y stands e = let clash = sym free ∙ is_taken y v xs taken was.are stands (e ∙ is) in cc

    both : (a b : ℕ) → list_any (nat_eq a) (xs ++ x ∷ []) ≡ true → list_any (nat_eq b) (xs ++ x ∷ []) ≡ true → s a ≡ s b → (p q : Bool) → list_any (nat_eq a) xs ≡ p → list_any (nat_eq b) xs ≡ q → a ≡ b
    both a b stands_a stands_b e true true f g = was.apart a b f g e
    both a b stands_a stands_b e true false f g = absurd (never a f (e ∙ ap s (any_more b x xs stands_b g)))
    both a b stands_a stands_b e false true f g = absurd (never b g (sym e ∙ ap s (any_more a x xs stands_a f)))
    both a b stands_a stands_b e false false f g = any_more a x xs stands_a f ∙ sym (any_more b x xs stands_b g)

  -- So the constraint's are told apart where this comes to an end,
  pub told_apart : (d : Shown) (taken : List ℕ) → AreTold s (own_numbers d) taken → TellsApart s d
  told_apart d taken told = record {
    variables = λ x is. value_of x (own_numbers d) taken told.are (in_own d x is);
    apart = λ x y is it e. told.apart x y (in_own d x is) (in_own d y it) e;
  }

  -- and not where one of them has no variable, or one that is taken.
  pub not_variable : (d : Shown) (i : ℕ) → i < length (own_numbers d) → variable_of (s (get_or (own_numbers d) i 0)) ≡ None → TellsApart s d → ⊥
  not_variable d i within none told =
      let x = get_or (own_numbers d) i 0 in
      let found = told.variables x (own_in d x (any_at (own_numbers d) i within)) in
      let clash : Some found.0 ≡ None = sym (ap variable_of found.1) ∙ none in cc

  pub not_apart : (d : Shown) (i v : ℕ) (taken : List ℕ) → i < length (own_numbers d) → AreTold s (take i (own_numbers d)) taken → s (get_or (own_numbers d) i 0) ≡ Leaf v → list_any (nat_eq v) taken ≡ true → TellsApart s d → ⊥
  not_apart d i v taken within was is has told =
      let own = own_numbers d in
      let x = get_or own i 0 in
      let found = owner_of v (take i own) taken was.are has in
      let same : found.0 ≡ x = told.apart found.0 x (own_in d found.0 (any_before found.0 own i found.1)) (own_in d x (any_at own i within)) (found.2 ∙ sym is) in
      let fresh = fresh_at own i (distinct-distinct nat_eq (diff_variables (diff_shown d))) within in
      let clash : true ≡ false = sym found.1 ∙ (ap (λ n. list_any (nat_eq n) (take i own)) same ∙ fresh) in cc

  -- The same of the list that is gone along.
  pub all_told : (d : Shown) (items taken : List ℕ) (i : ℕ) → items ≡ own_numbers d → AreTold s (take i items) taken → length items ≤ i → TellsApart s d
  all_told d items taken i e told past = told_apart d taken (subst (λ (xs : List ℕ). AreTold s xs taken) (take_all i items past ∙ e) told)

  pub told_next : (items taken next : List ℕ) (i v : ℕ) → AreTold s (take i items) taken → i < length items → Some v ≡ variable_of (s (get_or items i 0)) → list_any (nat_eq v) taken ≡ false → next ≡ taken ++ v ∷ [] → AreTold s (take (i + 1) items) next
  told_next items taken next i v was within is free e =
      subst (λ (l : List ℕ). AreTold s (take (i + 1) items) l) (sym e)
      (subst (λ (l : List ℕ). AreTold s l (taken ++ v ∷ [])) (sym (take_more items i 0 within)) (told_more (take i items) taken (get_or items i 0) v was (is_variable (s (get_or items i 0)) v is) free))

  pub none_at : (d : Shown) (items : List ℕ) (i : ℕ) → items ≡ own_numbers d → i < length items → None ≡ variable_of (s (get_or items i 0)) → TellsApart s d → ⊥
  none_at d items i e = subst (λ (xs : List ℕ). i < length xs → None ≡ variable_of (s (get_or xs i 0)) → TellsApart s d → ⊥) (sym e) (λ within none. not_variable d i within (sym none))

  pub taken_at : (d : Shown) (items taken : List ℕ) (i v : ℕ) → items ≡ own_numbers d → i < length items → AreTold s (take i items) taken → Some v ≡ variable_of (s (get_or items i 0)) → list_any (nat_eq v) taken ≡ true → TellsApart s d → ⊥
  taken_at d items taken i v e =
      subst (λ (xs : List ℕ). i < length xs → AreTold s (take i xs) taken → Some v ≡ variable_of (s (get_or xs i 0)) → list_any (nat_eq v) taken ≡ true → TellsApart s d → ⊥) (sym e)
      (λ within was is has. not_apart d i v taken within was (is_variable (s (get_or (own_numbers d) i 0)) v is) has)
