-- Variables of terms of a bank, in order; and numbers in lists.
use Rattle.std.proofs.Common.{◌≡◌, ℕ, suc, ◌+◌, ◌<◌, ◌≤◌, Bool, true, false, not, ◌||◌, cond, nat_eq, List, [], ◌∷◌, ◌++◌, length, map, flat_map, filter, take, drop, get_or, refl, ap, sym, ◌∙◌, add-one, drop-cons, drop_of_length-le, eqb-true, eq-eqb, append-nil, subst, arith}
use Rattle.std.specs.List.{list_any}
use Rattle.std.proofs.lemmas.List.{take_more}
use Rattle.std.proofs.lemmas.List.Folds.{flat_map-map}
use Rattle.spec_trees.specs.Tree.{node, trees}
use Rattle.spec_terms.specs.Term.{Sym, Term}
use Rattle.spec_clauses.specs.Variables.{leaves, row_leaves}
use Rattle.spec_clauses.specs.Norm.{distinct, place_of}
use Rattle.term_tree.specs.Bank.{tree_at}
use Rattle.term_tree.specs.declared.bank.Id.{Id}
use Rattle.spec_clauses.proofs.Equality.{tests_same}
use Rattle.spec_clauses.specs.FirstPhase.{times}
use Rattle.clause_diffs.proofs.Lists.{flat_map_all}

abbrev pub leaves_at : List Term → Id → List ℕ
leaves_at all id = leaves (tree_at all id)

row_leaves_at : (all : List Term) (ids : List Id) → row_leaves (trees (map (tree_at all) ids)) ≡ flat_map (leaves_at all) ids
row_leaves_at all [] = refl
row_leaves_at all (id ∷ ids) = ap (λ l. leaves_at all id ++ l) (row_leaves_at all ids)

pub node_leaves : (all : List Term) (id : Id) (f : Sym) (ids : List Id) → tree_at all id ≡ node f (map (tree_at all) ids) → leaves (tree_at all id) ≡ flat_map (leaves_at all) ids
node_leaves all id f ids is = ap leaves is ∙ row_leaves_at all ids

pub all_leaves : (all : List Term) (ids : List Id) (i : ℕ) → length ids ≤ i → flat_map (leaves_at all) (take i ids) ≡ flat_map leaves (map (tree_at all) ids)
all_leaves all ids i past = flat_map_all (leaves_at all) ids i past ∙ sym (flat_map-map leaves (tree_at all) ids)

-- what is left of numbers from the one at i on
dropped : (ys : List ℕ) (i d : ℕ) → i < length ys → drop i ys ≡ get_or ys i d ∷ drop (i + 1) ys
dropped ys i d within = drop-cons ys i d within ∙ ap (λ n. get_or ys i d ∷ drop n ys) (sym (add-one i))

pub place_here : (x : ℕ) (ys : List ℕ) (i : ℕ) → i < length ys → place_of x ys ≡ i + place_of x (drop i ys) → x ≡ get_or ys i 0 → i ≡ place_of x ys
place_here x ys i within was same =
    let here : place_of x (drop i ys) ≡ 0 = ap (place_of x) (dropped ys i 0 within) ∙ ap (λ b. cond b 0 (suc (place_of x (drop (i + 1) ys)))) (eq-eqb x (get_or ys i 0) same) in
    omega arith

pub place_on : (x : ℕ) (ys : List ℕ) (i : ℕ) → i < length ys → place_of x ys ≡ i + place_of x (drop i ys) → (x ≡ get_or ys i 0 → ⊥) → place_of x ys ≡ (i + 1) + place_of x (drop (i + 1) ys)
place_on x ys i within was differ = go (nat_eq x (get_or ys i 0)) refl where
  go : (b : Bool) → nat_eq x (get_or ys i 0) ≡ b → place_of x ys ≡ (i + 1) + place_of x (drop (i + 1) ys)
  go true e = absurd (differ (eqb-true x (get_or ys i 0) e))
  go false e =
      let here : place_of x (drop i ys) ≡ suc (place_of x (drop (i + 1) ys)) = ap (place_of x) (dropped ys i 0 within) ∙ ap (λ b. cond b 0 (suc (place_of x (drop (i + 1) ys)))) e in
      omega arith

pub place_past : (x : ℕ) (ys : List ℕ) (i : ℕ) → length ys ≤ i → i ≤ length ys → place_of x ys ≡ i + place_of x (drop i ys) → length ys ≡ place_of x ys
place_past x ys i past within was = let none : place_of x (drop i ys) ≡ 0 = ap (place_of x) (drop_of_length-le ys past) in omega arith

pub times_on : (x : ℕ) (ys : List ℕ) (i n k : ℕ) → i < length ys → n + times x (drop i ys) ≡ times x ys → k ≡ cond (nat_eq x (get_or ys i 0)) 1 0 → (n + k) + times x (drop (i + 1) ys) ≡ times x ys
times_on x ys i n k within was e = let here = ap (times x) (dropped ys i 0 within) in omega arith

pub times_past : (x : ℕ) (ys : List ℕ) (i n : ℕ) → length ys ≤ i → n + times x (drop i ys) ≡ times x ys → n ≡ times x ys
times_past x ys i n past was = let none : times x (drop i ys) ≡ 0 = ap (times x) (drop_of_length-le ys past) in omega arith

filter_step : {X : Type 0} (p : X → Bool) (x : X) (b : Bool) (xs : List X) → p x ≡ b → filter p (x ∷ xs) ≡ cond b (x ∷ filter p xs) (filter p xs)
filter_step p x b xs e = ap (λ c. cond c (x ∷ filter p xs) (filter p xs)) e

cond-push : {X : Type 0} (b : Bool) (x : X) (xs ys : List X) → cond b (x ∷ (xs ++ ys)) (xs ++ ys) ≡ cond b (x ∷ xs) xs ++ ys
cond-push true x xs ys = refl
cond-push false x xs ys = refl

pub filter-append : {X : Type 0} (p : X → Bool) (xs ys : List X) → filter p (xs ++ ys) ≡ filter p xs ++ filter p ys
filter-append p [] ys = refl
filter-append p (x ∷ xs) ys = ap (λ l. cond (p x) (x ∷ l) l) (filter-append p xs ys) ∙ cond-push (p x) x (filter p xs) (filter p ys)

abbrev unlike : {X : Type 0} (same : X → X → Bool) → X → X → Bool
unlike same x z = not (same x z)

-- the items unlike x, of which y is one or isn't
unlike-push : {X : Type 0} (same : X → X → Bool) (x y : X) (a : Bool) (ds : List X) → same x y ≡ a → filter (unlike same x) (ds ++ y ∷ []) ≡ cond a (filter (unlike same x) ds) (filter (unlike same x) ds ++ y ∷ [])
unlike-push same x y true ds e = filter-append (unlike same x) ds (y ∷ []) ∙ (ap (λ l. filter (unlike same x) ds ++ l) (filter_step (unlike same x) y false [] (ap not e)) ∙ append-nil (filter (unlike same x) ds))
unlike-push same x y false ds e = filter-append (unlike same x) ds (y ∷ []) ∙ ap (λ l. filter (unlike same x) ds ++ l) (filter_step (unlike same x) y true [] (ap not e))

distinct_step : {X : Type 0} (same : X → X → Bool) (x y : X) (a b : Bool) (ds : List X) → same x y ≡ a
    → x ∷ filter (unlike same x) (cond b ds (ds ++ y ∷ [])) ≡ cond (a || b) (x ∷ filter (unlike same x) ds) (x ∷ (filter (unlike same x) ds ++ y ∷ []))
distinct_step same x y true true ds e = refl
distinct_step same x y true false ds e = ap (λ l. x ∷ l) (unlike-push same x y true ds e)
distinct_step same x y false true ds e = refl
distinct_step same x y false false ds e = ap (λ l. x ∷ l) (unlike-push same x y false ds e)

-- of the items that are the same the first, with one more item at the end
pub distinct-push : {X : Type 0} (same : X → X → Bool) (xs : List X) (y : X) → distinct same (xs ++ y ∷ []) ≡ cond (list_any (λ x. same x y) xs) (distinct same xs) (distinct same xs ++ y ∷ [])
distinct-push same [] y = refl
distinct-push same (x ∷ xs) y = ap (λ l. x ∷ filter (unlike same x) l) (distinct-push same xs y) ∙ distinct_step same x y (same x y) (list_any (λ z. same z y) xs) (distinct same xs) refl

module _ {X : Type 0} (same : X → X → Bool) (sound : (x y : X) → same x y ≡ true → x ≡ y) (itself : (x : X) → same x x ≡ true) where
  symmetric : (x y : X) → same y x ≡ same x y
  symmetric x y = tests_same (same y x) (same x y) (λ e. subst (λ (z : X). same z y ≡ true) (sound y x e) (itself y)) (λ e. subst (λ (z : X). same z x ≡ true) (sound x y e) (itself x))

  unlike_step : (x y z : X) (ds : List X) (a : Bool) → same x y ≡ false → same x z ≡ a → list_any (same y) (filter (unlike same x) ds) ≡ list_any (same y) ds → list_any (same y) (filter (unlike same x) (z ∷ ds)) ≡ list_any (same y) (z ∷ ds)
  unlike_step x y z ds false differ e ih = ap (list_any (same y)) (filter_step (unlike same x) z true ds (ap not e)) ∙ ap (λ b. same y z || b) ih
  unlike_step x y z ds true differ e ih =
      let other : false ≡ same y z = tests_same false (same y z) (λ f. cc) (λ f. let one : x ≡ y = sound x z e ∙ sym (sound y z f) in let both : true ≡ false = sym (itself y) ∙ (ap (λ v. same v y) (sym one) ∙ differ) in cc) in
      ap (list_any (same y)) (filter_step (unlike same x) z false ds (ap not e)) ∙ (ih ∙ ap (λ b. b || list_any (same y) ds) other)

  -- what y is like stands among the items unlike x, where y is unlike x
  any_unlike : (x y : X) (ds : List X) → same x y ≡ false → list_any (same y) (filter (unlike same x) ds) ≡ list_any (same y) ds
  any_unlike x y [] differ = refl
  any_unlike x y (z ∷ ds) differ = unlike_step x y z ds (same x z) differ refl (any_unlike x y ds differ)

  any_step : (x y : X) (xs : List X) (a : Bool) → same x y ≡ a → list_any (same y) (distinct same xs) ≡ list_any (λ z. same z y) xs → list_any (same y) (distinct same (x ∷ xs)) ≡ list_any (λ z. same z y) (x ∷ xs)
  any_step x y xs true e ih = ap (λ b. b || list_any (same y) (filter (unlike same x) (distinct same xs))) (symmetric x y ∙ e) ∙ sym (ap (λ b. b || list_any (λ z. same z y) xs) e)
  any_step x y xs false e ih = ap (λ b. same y x || b) (any_unlike x y (distinct same xs) e ∙ ih) ∙ ap (λ b. b || list_any (λ z. same z y) xs) (symmetric x y)

  any_distinct : (xs : List X) (y : X) → list_any (same y) (distinct same xs) ≡ list_any (λ z. same z y) xs
  any_distinct [] y = refl
  any_distinct (x ∷ xs) y = any_step x y xs (same x y) refl (any_distinct xs y)

  -- one item more: it is added where it is not like one of those
  pub distinct_on : (xs : List X) (i : ℕ) (y : X) (found new : List X) → i < length xs → y ≡ get_or xs i y → found ≡ distinct same (take i xs) → new ≡ cond (list_any (same y) found) found (found ++ y ∷ []) → new ≡ distinct same (take (i + 1) xs)
  distinct_on xs i y found new within is was e =
      let pushed : distinct same (take (i + 1) xs) ≡ cond (list_any (λ z. same z y) (take i xs)) (distinct same (take i xs)) (distinct same (take i xs) ++ y ∷ []) =
      ap (distinct same) (take_more xs i y within ∙ ap (λ z. take i xs ++ z ∷ []) (sym is)) ∙ distinct-push same (take i xs) y in
      e ∙ (ap (λ l. cond (list_any (same y) l) l (l ++ y ∷ [])) was
      ∙ (ap (λ b. cond b (distinct same (take i xs)) (distinct same (take i xs) ++ y ∷ [])) (any_distinct (take i xs) y) ∙ sym pushed))
