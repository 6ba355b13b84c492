-- Terms that are put into a list of distinct terms, one by one.
use Rattle.std.proofs.Common.{◌≡◌, suc, Bool, true, false, not, ◌||◌, cond, List, [], ◌∷◌, ◌++◌, refl, sym, ◌∙◌, ap}
use Rattle.std.specs.Prelude.{filter, flat_map}
use Rattle.std.specs.List.{list_any}
use Rattle.std.proofs.lemmas.List.{append_assoc, append-nil}
use Rattle.std.proofs.lemmas.List.Elements.{filter-append}
use Rattle.std.proofs.lemmas.Grind.{flat_map-append}
use Rattle.spec_trees.specs.Tree.{trees}
use Rattle.spec_terms.specs.Term.{Term}
use Rattle.spec_clauses.specs.Fact.{same_term}
use Rattle.spec_clauses.specs.Norm.{distinct}
use Rattle.spec_clauses.specs.Inclusion.{Has}
use Rattle.spec_clauses.proofs.Equality.{same_term-decides}
use Rattle.spec_clauses.proofs.Inclusion.{Has-append_right, Has-append_left}
use Rattle.spec_node_tables.specs.Table.{walk, walk_row, place_in, number_in}
use Rattle.spec_node_tables.proofs.Walks.{same_or_not, walk_completes, distinct_has}
use Rattle.spec_node_tables.proofs.Numbers.{place_before}
use Rattle.term_tree.specs.Bank.{Grows}
use Rattle.node_table.specs.Entered.{table_of, with_term, with_terms}

pub with_terms-append : (all ts us : List Term) → with_terms all (ts ++ us) ≡ with_terms (with_terms all ts) us
with_terms-append all [] us = refl
with_terms-append all (t ∷ ts) us = with_terms-append (with_term all t) ts us

with_term-grows : (all : List Term) (t : Term) → Grows all (with_term all t)
with_term-grows all t = elim (list_any (same_term t) all) as (λ b. Grows all (cond b all (all ++ (t ∷ [])))) [
  | true ↦ ([], sym (append-nil all))
  | false ↦ (t ∷ [], refl)
]

pub with_terms-grows : (all ts : List Term) → Grows all (with_terms all ts)
with_terms-grows all [] = ([], sym (append-nil all))
with_terms-grows all (t ∷ ts) =
    let first = with_term-grows all t in
    let later = with_terms-grows (with_term all t) ts in
    (first.0 ++ later.0, later.1 ∙ (ap (λ l. l ++ later.0) first.1 ∙ append_assoc all first.0 later.0))

-- What is kept of terms when one more comes.

not_same : (x y : Term) → same_term x y ≡ false → same_term y x ≡ false
not_same x y other = same_or_not y x (λ b. b ≡ false)
    (λ alike. let same : same_term x y ≡ true = (same_term-decides x y).1 (sym alike) in absurd (cc))
    (λ e. refl)

-- terms that differ from x hold y as often as before, where y is another
any_kept : (x y : Term) (ts : List Term) → same_term x y ≡ false → list_any (same_term y) (filter (λ z. not (same_term x z)) ts) ≡ list_any (same_term y) ts
any_kept x y [] other = refl
any_kept x y (t ∷ ts) other = same_or_not x t (λ b. list_any (same_term y) (cond (not b) (t ∷ filter (λ z. not (same_term x z)) ts) (filter (λ z. not (same_term x z)) ts)) ≡ list_any (same_term y) (t ∷ ts))
    (λ alike.
    let skipped : same_term y t ≡ false = ap (same_term y) (sym alike) ∙ not_same x y other in
    any_kept x y ts other ∙ ap (λ b. b || list_any (same_term y) ts) (sym skipped))
    (λ apart. ap (λ b. same_term y t || b) (any_kept x y ts other))

-- those that differ from x
abbrev keep : Term → List Term → List Term
keep x us = filter (λ z. not (same_term x z)) us

-- what stands behind the others
last_kept : (x y : Term) (ts : List Term) (b : Bool) → same_term x y ≡ b → keep x (ts ++ (y ∷ [])) ≡ keep x ts ++ cond (not b) (y ∷ []) []
last_kept x y ts b e = filter-append (λ z. not (same_term x z)) ts (y ∷ []) ∙ ap (λ c. keep x ts ++ cond (not c) (y ∷ []) []) e

dropped : (x y : Term) (ts : List Term) (b : Bool) → same_term x y ≡ true → keep x (cond b ts (ts ++ (y ∷ []))) ≡ keep x ts
dropped x y ts true e = refl
dropped x y ts false e = last_kept x y ts true e ∙ append-nil (keep x ts)

moved : (x y : Term) (ts : List Term) (b : Bool) → same_term x y ≡ false → x ∷ keep x (cond b ts (ts ++ (y ∷ []))) ≡ cond b (x ∷ keep x ts) ((x ∷ keep x ts) ++ (y ∷ []))
moved x y ts true e = refl
moved x y ts false e = ap (λ l. x ∷ l) (last_kept x y ts false e)

-- of x and the terms that differ from it, with one more
filtered : (x y : Term) (ts : List Term) → x ∷ keep x (with_term ts y) ≡ with_term (x ∷ keep x ts) y
filtered x y ts = go (same_term x y) refl where
  go : (b : Bool) → same_term x y ≡ b → x ∷ keep x (with_term ts y) ≡ with_term (x ∷ keep x ts) y
  go true e =
      let alike : x ≡ y = (same_term-decides x y).0 e in
      let found : same_term y x ≡ true = (same_term-decides y x).1 (sym alike) in
      ap (λ l. x ∷ l) (dropped x y ts (list_any (same_term y) ts) e)
      ∙ ap (λ b. cond (b || list_any (same_term y) (keep x ts)) (x ∷ keep x ts) ((x ∷ keep x ts) ++ (y ∷ []))) (sym found)
  go false e =
      moved x y ts (list_any (same_term y) ts) e
      ∙ ap (λ b. cond b (x ∷ keep x ts) ((x ∷ keep x ts) ++ (y ∷ [])))
      (sym (any_kept x y ts e) ∙ ap (λ b. b || list_any (same_term y) (keep x ts)) (sym (not_same x y e)))

distinct_more : (xs : List Term) (y : Term) → distinct same_term (xs ++ (y ∷ [])) ≡ with_term (distinct same_term xs) y
distinct_more [] y = refl
distinct_more (x ∷ xs) y = ap (λ l. x ∷ filter (λ z. not (same_term x z)) l) (distinct_more xs y) ∙ filtered x y (distinct same_term xs)

distinct_append : (xs ys : List Term) → distinct same_term (xs ++ ys) ≡ with_terms (distinct same_term xs) ys
distinct_append xs [] = ap (distinct same_term) (append-nil xs)
distinct_append xs (y ∷ ys) =
    ap (distinct same_term) (sym (append_assoc xs (y ∷ []) ys)) ∙ (distinct_append (xs ++ (y ∷ [])) ys ∙ ap (λ l. with_terms l ys) (distinct_more xs y))

-- Tables of terms.

pub table_of-append : (ts us : List Term) → table_of (ts ++ us) ≡ with_terms (table_of ts) (flat_map walk us)
table_of-append ts us = ap (distinct same_term) (flat_map-append walk ts us) ∙ distinct_append (flat_map walk ts) (flat_map walk us)

pub table_of-more : (ts : List Term) (t : Term) → table_of (ts ++ (t ∷ [])) ≡ with_terms (table_of ts) (walk t)
table_of-more ts t = table_of-append ts (t ∷ []) ∙ ap (with_terms (table_of ts)) (append-nil (walk t))

-- the last term of those that were put into a table stands in it
pub table_of-has : (ts : List Term) (t : Term) → Has (table_of (ts ++ (t ∷ []))) t
table_of-has ts t = distinct_has (flat_map walk (ts ++ (t ∷ []))) t (has t ts) where
  has : (t : Term) (ts : List Term) → Has (flat_map walk (ts ++ (t ∷ []))) t
  has t [] = Has-append_left (walk t) [] t (walk_completes t)
  has t (u ∷ us) = Has-append_right (walk u) (flat_map walk (us ++ (t ∷ []))) t (has t us)

-- its number stays, whatever terms follow
pub number_stays : (ts later : List Term) (t : Term) → number_in (table_of (ts ++ (t ∷ later))) t ≡ number_in (table_of (ts ++ (t ∷ []))) t
number_stays ts later t =
    let whole : table_of (ts ++ (t ∷ later)) ≡ with_terms (table_of (ts ++ (t ∷ []))) (flat_map walk later) = ap table_of (sym (append_assoc ts (t ∷ []) later)) ∙ table_of-append (ts ++ (t ∷ [])) later in
    let grown = with_terms-grows (table_of (ts ++ (t ∷ []))) (flat_map walk later) in
    let place : place_in (table_of (ts ++ (t ∷ [])) ++ grown.0) t ≡ place_in (table_of (ts ++ (t ∷ []))) t = place_before (table_of (ts ++ (t ∷ []))) grown.0 t (table_of-has ts t) in
    ap (λ l. number_in l t) (whole ∙ grown.1) ∙ ap suc place

-- the walk through a row is that through its trees in turn
pub row_walk : (ts : List Term) → walk_row (trees ts) ≡ flat_map walk ts
row_walk [] = refl
row_walk (t ∷ ts) = ap (λ l. walk t ++ l) (row_walk ts)
