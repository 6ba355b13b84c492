-- What is completed, one term after another.
use Rattle.std.proofs.Common.{◌≡◌, Bool, true, false, not, ◌||◌, cond, List, [], ◌∷◌, ◌++◌, refl, sym, ◌∙◌, ap, append_assoc}
use Rattle.std.specs.Prelude.{filter, flat_map}
use Rattle.std.specs.List.{list_any}
use Rattle.std.proofs.lemmas.List.{append-nil}
use Rattle.std.proofs.lemmas.List.Folds.{list_any-append}
use Rattle.std.proofs.lemmas.Grind.{flat_map-append}
use Rattle.spec_terms.specs.Term.{Term}
use Rattle.spec_clauses.specs.Fact.{same_term}
use Rattle.spec_clauses.specs.Norm.{distinct}
use Rattle.spec_clauses.proofs.Equality.{same_term-decides}
use Rattle.spec_node_tables.specs.Table.{walk}
use Rattle.spec_node_faults.specs.Clauses.{completed}

abbrev pub stands_in : List Term → Term → Bool
stands_in ts t = list_any (same_term t) ts

-- the term stands behind these, unless it is one of them
abbrev pub with_term : List Term → Term → List Term
with_term ts t = cond (stands_in ts t) ts (ts ++ t ∷ [])

abbrev pub run : List Term → List Term → List Term
run before [] = before
run before (t ∷ ts) = run (with_term before t) ts

pub run-append : (before xs ys : List Term) → run before (xs ++ ys) ≡ run (run before xs) ys
run-append before [] ys = refl
run-append before (x ∷ xs) ys = run-append (with_term before x) xs ys

turned : (t u : Term) (b : Bool) → same_term t u ≡ b → same_term u t ≡ b
turned t u true e = (same_term-decides u t).1 (sym ((same_term-decides t u).0 e))
turned t u false e = by (same_term u t) refl
  where
    by : (b : Bool) → same_term u t ≡ b → b ≡ false
    by false f = refl
    by true f = let never : true ≡ false = sym ((same_term-decides t u).1 (sym ((same_term-decides u t).0 f))) ∙ e in absurd (cc)

pub same_back : (t u : Term) → same_term u t ≡ same_term t u
same_back t u = turned t u (same_term t u) refl

-- of the items that pass, those that pass another test
filter-both : (p q r : Term → Bool) → ((t : Term) → r t ≡ cond (p t) (q t) false) → (ts : List Term) → filter q (filter p ts) ≡ filter r ts
filter-both p q r both [] = refl
filter-both p q r both (t ∷ ts) = by (filter-both p q r both ts) (p t) ∙ ap (λ c. cond c (t ∷ filter r ts) (filter r ts)) (sym (both t))
  where
    by : filter q (filter p ts) ≡ filter r ts → (a : Bool) → filter q (cond a (t ∷ filter p ts) (filter p ts)) ≡ cond (cond a (q t) false) (t ∷ filter r ts) (filter r ts)
    by rest true = ap (λ zs. cond (q t) (t ∷ zs) zs) rest
    by rest false = rest

filter-every : (ts : List Term) → filter (λ t. true) ts ≡ ts
filter-every [] = refl
filter-every (t ∷ ts) = ap (λ zs. t ∷ zs) (filter-every ts)

-- one that stands there and one that doesn't differ
stands_alike : (before : List Term) (x y : Term) → stands_in before x ≡ true → same_term x y ≡ true → stands_in before y ≡ true
stands_alike before x y stands same = ap (stands_in before) (sym ((same_term-decides x y).0 same)) ∙ stands

new_test : (before : List Term) (x : Term) → stands_in before x ≡ true → (y : Term) → not (stands_in before y) ≡ cond (not (same_term x y)) (not (stands_in before y)) false
new_test before x stands y = by (same_term x y) refl
  where
    by : (b : Bool) → same_term x y ≡ b → not (stands_in before y) ≡ cond (not b) (not (stands_in before y)) false
    by false e = refl
    by true e = ap not (stands_alike before x y stands e)

longer_test : (before : List Term) (x y : Term) → not (stands_in (before ++ x ∷ []) y) ≡ cond (not (same_term x y)) (not (stands_in before y)) false
longer_test before x y = ap not (list_any-append (same_term y) before (x ∷ [])) ∙ (ap (λ b. not (stands_in before y || (b || false))) (same_back x y) ∙ by (stands_in before y) (same_term x y))
  where
    by : (a b : Bool) → not (a || (b || false)) ≡ cond (not b) (not a) false
    by true true = refl
    by true false = refl
    by false true = refl
    by false false = refl

abbrev others : Term → List Term → List Term
others x xs = filter (λ y. not (same_term x y)) (distinct same_term xs)

-- what a run adds are the distinct ones that do not stand there
run_adds : (before xs : List Term) → run before xs ≡ before ++ filter (λ y. not (stands_in before y)) (distinct same_term xs)
run_adds before [] = sym (append-nil before)
run_adds before (x ∷ xs) = by (run_adds before xs) (run_adds (before ++ x ∷ []) xs) (stands_in before x) refl
  where
    by : run before xs ≡ before ++ filter (λ y. not (stands_in before y)) (distinct same_term xs)
        → run (before ++ x ∷ []) xs ≡ (before ++ x ∷ []) ++ filter (λ y. not (stands_in (before ++ x ∷ []) y)) (distinct same_term xs)
        → (b : Bool) → stands_in before x ≡ b → run (cond b before (before ++ x ∷ [])) xs ≡ before ++ cond (not b) (x ∷ filter (λ y. not (stands_in before y)) (others x xs)) (filter (λ y. not (stands_in before y)) (others x xs))
    by again longer true e = again ∙ ap (λ zs. before ++ zs) (sym (filter-both (λ y. not (same_term x y)) (λ y. not (stands_in before y)) (λ y. not (stands_in before y)) (new_test before x e) (distinct same_term xs)))
    by again longer false e = longer ∙ (append_assoc before (x ∷ []) (filter (λ y. not (stands_in (before ++ x ∷ []) y)) (distinct same_term xs))
        ∙ ap (λ zs. before ++ (x ∷ zs)) (sym (filter-both (λ y. not (same_term x y)) (λ y. not (stands_in before y)) (λ y. not (stands_in (before ++ x ∷ []) y)) (longer_test before x) (distinct same_term xs))))

pub run_grows : (before xs : List Term) → (rest : List Term) × (run before xs ≡ before ++ rest)
run_grows before xs = (filter (λ y. not (stands_in before y)) (distinct same_term xs), run_adds before xs)

distinct_is_run : (xs : List Term) → distinct same_term xs ≡ run [] xs
distinct_is_run xs = sym (run_adds [] xs ∙ filter-every (distinct same_term xs))

-- with one term more
pub completed_more : (ts : List Term) (t : Term) → completed (ts ++ t ∷ []) ≡ run (completed ts) (walk t)
completed_more ts t =
    distinct_is_run (flat_map walk (ts ++ t ∷ []))
    ∙ (ap (run []) (flat_map-append walk ts (t ∷ []) ∙ ap (λ zs. flat_map walk ts ++ zs) (append-nil (walk t)))
    ∙ (run-append [] (flat_map walk ts) (walk t) ∙ ap (λ zs. run zs (walk t)) (sym (distinct_is_run (flat_map walk ts)))))
