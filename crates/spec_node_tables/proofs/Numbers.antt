-- Places and numbers in a table.
use Rattle.std.proofs.Common.{◌≡◌, suc, ◌<◌, true, false, cond, List, [], ◌∷◌, ◌++◌, length, Some, slice_get, ⊎_elim, refl, sym, ap, subst, arith}
use Rattle.std.specs.List.{AllByRecursion}
use Rattle.std.proofs.lemmas.List.{append_assoc}
use Rattle.spec_terms.specs.Term.{Term}
use Rattle.spec_clauses.specs.Fact.{Clause, same_term}
use Rattle.spec_clauses.specs.Inclusion.{Has}
use Rattle.spec_clauses.proofs.Lists.{all_append}
use Rattle.spec_clauses.proofs.Equality.{same_term-decides}
use Rattle.spec_clauses.proofs.Inclusion.{all_has}
use Rattle.spec_node_tables.specs.Table.{table, place_in, number_in, arguments_of}
use Rattle.spec_node_tables.proofs.Walks.{same_or_not, first_or_later, ArgumentsFirst, table_first}

-- what stands in a list and is not its first stands behind that
later_has : (u : Term) (us : List Term) (t : Term) → same_term t u ≡ false → Has (u ∷ us) t → Has us t
later_has u us t other h = ⊎_elim
    (λ first. let same : same_term t u ≡ true = (same_term-decides t u).1 first in absurd (cc))
    (λ later. later)
    (first_or_later u us t h)

pub at_place : (ts : List Term) (t : Term) → Has ts t → slice_get ts (place_in ts t) ≡ Some t
at_place [] t h = elim h.1 [ ]
at_place (u ∷ us) t h = same_or_not t u (λ b. slice_get (u ∷ us) (cond b 0 (suc (place_in us t))) ≡ Some t)
    (λ alike. ap Some (sym alike))
    (λ other. at_place us t (later_has u us t other h))

pub place_within : (ts : List Term) (t : Term) → Has ts t → place_in ts t < length ts
place_within [] t h = elim h.1 [ ]
place_within (u ∷ us) t h = same_or_not t u (λ b. cond b 0 (suc (place_in us t)) < length (u ∷ us))
    (λ alike. omega arith)
    (λ other. let below = place_within us t (later_has u us t other h) in omega arith)

-- more behind a list changes no place in it
pub place_before : (ts us : List Term) (t : Term) → Has ts t → place_in (ts ++ us) t ≡ place_in ts t
place_before [] us t h = elim h.1 [ ]
place_before (u ∷ ts) us t h = same_or_not t u (λ b. cond b 0 (suc (place_in (ts ++ us) t)) ≡ cond b 0 (suc (place_in ts t)))
    (λ alike. refl)
    (λ other. ap suc (place_before ts us t (later_has u ts t other h)))

-- no term of the list is this one
abbrev pub Lacks : List Term → Term → Type 0
Lacks ts t = AllByRecursion (λ u. same_term t u ≡ false) ts

pub place_of_new : (ts us : List Term) (t : Term) → Lacks ts t → place_in (ts ++ (t ∷ us)) t ≡ length ts
place_of_new [] us t lacks =
    let same : same_term t t ≡ true = (same_term-decides t t).1 refl in
    ap (λ b. cond b 0 (suc (place_in us t))) same
place_of_new (u ∷ ts) us t lacks =
    let later : suc (place_in (ts ++ (t ∷ us)) t) ≡ suc (length ts) = ap suc (place_of_new ts us t lacks.1) in
    let skipped : place_in (u ∷ (ts ++ (t ∷ us))) t ≡ suc (place_in (ts ++ (t ∷ us)) t) = ap (λ b. cond b 0 (suc (place_in (ts ++ (t ∷ us)) t))) lacks.0 in
    omega (arith, later, skipped)

-- arguments have lower places
place_rises : (before ts : List Term) (t u : Term) → ArgumentsFirst before ts → Lacks before t → Has ts t → Has (arguments_of t) u → place_in (before ++ ts) u < place_in (before ++ ts) t
place_rises before [] t u first lacks h argument = elim h.1 [ ]
place_rises before (x ∷ xs) t u first lacks h argument = same_or_not t x (λ b. place_in (before ++ (x ∷ xs)) u < place_in (before ++ (x ∷ xs)) t)
    (λ alike.
    let stands : Has before u = all_has (Has before) (arguments_of t) u (subst (λ y. AllByRecursion (Has before) (arguments_of y)) (sym alike) first.0) argument in
    let new : place_in (before ++ (x ∷ xs)) t ≡ length before = subst (λ y. place_in (before ++ (y ∷ xs)) t ≡ length before) alike (place_of_new before xs t lacks) in
    let old : place_in (before ++ (x ∷ xs)) u ≡ place_in before u = place_before before (x ∷ xs) u stands in
    let below : place_in before u < length before = place_within before u stands in
    omega arith)
    (λ other.
    let later = place_rises (before ++ (x ∷ [])) xs t u first.1 (all_append (λ v. same_term t v ≡ false) before (x ∷ []) lacks (other, tt)) (later_has x xs t other h) argument in
    subst (λ ys. place_in ys u < place_in ys t) (append_assoc before (x ∷ []) xs) later)

pub table_rises : (cs : List (Clause Term)) (t u : Term) → Has (table cs) t → Has (arguments_of t) u → number_in (table cs) u < number_in (table cs) t
table_rises cs t u h argument = let rises = place_rises [] (table cs) t u (table_first cs) tt h argument in omega arith
