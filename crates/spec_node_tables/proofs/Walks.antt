-- What a walk completes: the subterms, each behind its arguments; and what of it the table keeps.
use Rattle.std.proofs.Common.{◌≡◌, ◌↔◌, ◌⊎◌, inl, inr, ⊎_elim, Bool, true, false, not, cond, List, [], ◌∷◌, ◌++◌, refl, sym, subst}
use Rattle.std.specs.Prelude.{filter, flat_map}
use Rattle.std.specs.List.{AllByRecursion, IsDistinct}
use Rattle.std.proofs.lemmas.List.{append_assoc, append-nil}
use Rattle.spec_trees.specs.Tree.{Trees, Leaf, Node, none, more, items_of}
use Rattle.spec_terms.specs.Term.{Sym, Term}
use Rattle.spec_clauses.specs.Fact.{Clause, same_term}
use Rattle.spec_clauses.specs.Norm.{distinct}
use Rattle.spec_clauses.specs.Inclusion.{here, there, Has}
use Rattle.spec_clauses.proofs.Lists.{all_weaker}
use Rattle.spec_clauses.proofs.Equality.{same_term-decides}
use Rattle.spec_clauses.proofs.Distinct.{distinct-distinct}
use Rattle.spec_clauses.proofs.NormKeeps.{within-distinct}
use Rattle.spec_clauses.proofs.Inclusion.{Has-append_left, Has-append_right, Has-append, Has-within, Has-one, Has-filter, Has-flat_map, Has-flat_map_source}
use Rattle.spec_node_tables.specs.Table.{walk, walk_row, terms_in_order, table, arguments_of, IsSubterm, itself, of_argument}

-- the test is passed by the same term, or it isn't and they differ
pub same_or_not : (t u : Term) (Q : Bool → Type 0) → (t ≡ u → Q true) → (same_term t u ≡ false → Q false) → Q (same_term t u)
same_or_not t u Q alike other = go (same_term t u) refl where
  go : (b : Bool) → same_term t u ≡ b → Q b
  go true e = alike ((same_term-decides t u).0 e)
  go false e = other e

-- Subterms.

pub walk_completes : (t : Term) → Has (walk t) t
walk_completes (Leaf x) = ([], here)
walk_completes (Node f args) = Has-append_right (walk_row args) (Node f args ∷ []) (Node f args) ([], here)

-- an item is the first or stands behind it
pub first_or_later : {X : Type 0} (x : X) (xs : List X) (y : X) → Has (x ∷ xs) y → (y ≡ x) ⊎ Has xs y
first_or_later x xs y h = ⊎_elim (λ first. inl (Has-one first)) (λ later. inr later) ((Has-append (x ∷ []) xs y).0 h)

row_walked : (ts : Trees _ Sym) (u t : Term) → Has (items_of ts) u → Has (walk u) t → Has (walk_row ts) t
row_walked none u t has h = elim has.1 [ ]
row_walked (more s ts) u t has h = elim (first_or_later s (items_of ts) u has) as (λ _. Has (walk s ++ walk_row ts) t) [
  | inl same ↦ Has-append_left (walk s) (walk_row ts) t (subst (λ v. Has (walk v) t) same h)
  | inr later ↦ Has-append_right (walk s) (walk_row ts) t (row_walked ts u t later h)
]

argument_walked : (v u t : Term) → Has (arguments_of v) u → Has (walk u) t → Has (walk v) t
argument_walked (Leaf x) u t has h = elim has.1 [ ]
argument_walked (Node f args) u t has h = Has-append_left (walk_row args) (Node f args ∷ []) t (row_walked args u t has h)

pub subterm_walked : {t u : Term} → IsSubterm t u → Has (walk u) t
subterm_walked {t} itself = walk_completes t
subterm_walked {t} (of_argument {u = u} {v = v} has within) = argument_walked v u t has (subterm_walked within)

same_subterm : (t u : Term) → t ≡ u → IsSubterm t u
same_subterm t u e = subst (λ v. IsSubterm t v) e itself

mutual
  pub walked_subterm : (u t : Term) → Has (walk u) t → IsSubterm t u
  walked_subterm (Leaf x) t h = same_subterm t (Leaf x) (Has-one h)
  walked_subterm (Node f args) t h = elim ((Has-append (walk_row args) (Node f args ∷ []) t).0 h) as (λ _. IsSubterm t (Node f args)) [
    | inl within ↦ (let (u, has, sub) = walked_in_row args t within in of_argument has sub)
    | inr root ↦ same_subterm t (Node f args) (Has-one root)
  ]

  walked_in_row : (ts : Trees _ Sym) (t : Term) → Has (walk_row ts) t → (u : Term) × Has (items_of ts) u × IsSubterm t u
  walked_in_row none t h = elim h.1 [ ]
  walked_in_row (more s ts) t h = elim ((Has-append (walk s) (walk_row ts) t).0 h) as (λ _. (u : Term) × Has (s ∷ items_of ts) u × IsSubterm t u) [
    | inl first ↦ (s, (items_of ts, here), walked_subterm s t first)
    | inr later ↦ (let (u, has, sub) = walked_in_row ts t later in (u, (s ∷ has.0, there has.1), sub))
  ]

-- what a list has, its distinct items have
kept : (x : Term) (xs : List Term) (t : Term) → same_term x t ≡ false → Has xs t → Has (x ∷ filter (λ y. not (same_term x y)) xs) t
kept x xs t other h =
    let passes : not (same_term x t) ≡ true = rw other refl in
    let found = Has-filter (λ y. not (same_term x y)) xs t h passes in
    (x ∷ found.0, there found.1)

pub distinct_has : (xs : List Term) (t : Term) → Has xs t → Has (distinct same_term xs) t
distinct_has [] t h = h
distinct_has (x ∷ xs) t h = elim (first_or_later x xs t h) as (λ _. Has (distinct same_term (x ∷ xs)) t) [
  | inl same ↦ subst (λ y. Has (distinct same_term (x ∷ xs)) y) (sym same) (filter (λ y. not (same_term x y)) (distinct same_term xs), here)
  | inr later ↦ same_or_not x t (λ _. Has (distinct same_term (x ∷ xs)) t)
      (λ alike. subst (λ y. Has (distinct same_term (x ∷ xs)) y) alike (filter (λ y. not (same_term x y)) (distinct same_term xs), here))
      (λ other. kept x (distinct same_term xs) t other (distinct_has xs t later))
]

pub table_has : (cs : List (Clause Term)) (t : Term) → Has (table cs) t ↔ ((u : Term) × Has (terms_in_order cs) u × IsSubterm t u)
table_has cs t = (forth, back) where
  forth : Has (table cs) t → (u : Term) × Has (terms_in_order cs) u × IsSubterm t u
  forth h =
      let (u, has, walked) = Has-flat_map_source walk (terms_in_order cs) t (Has-within (table cs) (flat_map walk (terms_in_order cs)) t (within-distinct same_term (flat_map walk (terms_in_order cs))) h) in
      (u, has, walked_subterm u t walked)

  back : ((u : Term) × Has (terms_in_order cs) u × IsSubterm t u) → Has (table cs) t
  back h = distinct_has (flat_map walk (terms_in_order cs)) t (Has-flat_map walk (terms_in_order cs) h.0 t h.1 (subterm_walked h.2))

pub table_distinct : (cs : List (Clause Term)) → IsDistinct same_term (table cs)
table_distinct cs = distinct-distinct same_term (flat_map walk (terms_in_order cs))

-- Arguments stand before their terms: in these terms or in those before them.

abbrev pub ArgumentsFirst : List Term → List Term → Type 0
ArgumentsFirst before [] = Unit {0}
ArgumentsFirst before (t ∷ ts) = AllByRecursion (Has before) (arguments_of t) × ArgumentsFirst (before ++ (t ∷ [])) ts

one_more : (before after : List Term) (x : Term) → ((t : Term) → Has before t → Has after t) → (t : Term) → Has (before ++ (x ∷ [])) t → Has (after ++ (x ∷ [])) t
one_more before after x within t h = ⊎_elim
    (λ first. Has-append_left after (x ∷ []) t (within t first))
    (λ last. Has-append_right after (x ∷ []) t last)
    ((Has-append before (x ∷ []) t).0 h)

with_more : (xs before after : List Term) → ((t : Term) → Has before t → Has after t) → ArgumentsFirst before xs → ArgumentsFirst after xs
with_more [] before after within first = tt
with_more (x ∷ xs) before after within first =
    (all_weaker (Has before) (Has after) within (arguments_of x) first.0, with_more xs (before ++ (x ∷ [])) (after ++ (x ∷ [])) (one_more before after x within) first.1)

first_append : (before xs ys : List Term) → ArgumentsFirst before xs → ArgumentsFirst (before ++ xs) ys → ArgumentsFirst before (xs ++ ys)
first_append before [] ys first later = subst (λ zs. ArgumentsFirst zs ys) (append-nil before) later
first_append before (x ∷ xs) ys first later =
    (first.0, first_append (before ++ (x ∷ [])) xs ys first.1 (subst (λ zs. ArgumentsFirst zs ys) (sym (append_assoc before (x ∷ []) xs)) later))

row_completes : (ts : Trees _ Sym) → AllByRecursion (Has (walk_row ts)) (items_of ts)
row_completes none = tt
row_completes (more t ts) = (
  Has-append_left (walk t) (walk_row ts) t (walk_completes t),
  all_weaker (Has (walk_row ts)) (Has (walk t ++ walk_row ts)) (λ u h. Has-append_right (walk t) (walk_row ts) u h) (items_of ts) (row_completes ts),
)

mutual
  walk_first : (t : Term) (before : List Term) → ArgumentsFirst before (walk t)
  walk_first (Leaf x) before = (tt, tt)
  walk_first (Node f args) before =
      first_append before (walk_row args) (Node f args ∷ []) (row_first args before)
      (all_weaker (Has (walk_row args)) (Has (before ++ walk_row args)) (λ u h. Has-append_right before (walk_row args) u h) (items_of args) (row_completes args), tt)

  row_first : (ts : Trees _ Sym) (before : List Term) → ArgumentsFirst before (walk_row ts)
  row_first none before = tt
  row_first (more t ts) before = first_append before (walk t) (walk_row ts) (walk_first t before) (row_first ts (before ++ walk t))

walks_first : (ts : List Term) (before : List Term) → ArgumentsFirst before (flat_map walk ts)
walks_first [] before = tt
walks_first (t ∷ ts) before = first_append before (walk t) (flat_map walk ts) (walk_first t before) (walks_first ts (before ++ walk t))

-- a term that stands before may be left out
left_out : (x : Term) (before ys : List Term) → Has before x → ArgumentsFirst before ys → ArgumentsFirst before (filter (λ y. not (same_term x y)) ys)
left_out x before [] has first = tt
left_out x before (y ∷ ys) has first = same_or_not x y (λ b. ArgumentsFirst before (cond (not b) (y ∷ filter (λ z. not (same_term x z)) ys) (filter (λ z. not (same_term x z)) ys)))
    (λ alike. left_out x before ys has (with_more ys (before ++ (y ∷ [])) before (λ t h. ⊎_elim (λ earlier. earlier) (λ last. subst (Has before) (alike_last alike t last) has) ((Has-append before (y ∷ []) t).0 h)) first.1))
    (λ other. (first.0, left_out x (before ++ (y ∷ [])) ys (Has-append_left before (y ∷ []) x has) first.1))
  where
    alike_last : x ≡ y → (t : Term) → Has (y ∷ []) t → x ≡ t
    alike_last alike t last = let same : t ≡ y = Has-one last in cc

distinct_first : (before xs : List Term) → ArgumentsFirst before xs → ArgumentsFirst before (distinct same_term xs)
distinct_first before [] first = tt
distinct_first before (x ∷ xs) first =
    (first.0, left_out x (before ++ (x ∷ [])) (distinct same_term xs) (Has-append_right before (x ∷ []) x ([], here)) (distinct_first (before ++ (x ∷ [])) xs first.1))

pub table_first : (cs : List (Clause Term)) → ArgumentsFirst [] (table cs)
table_first cs = distinct_first [] (flat_map walk (terms_in_order cs)) (walks_first (terms_in_order cs) [])
