-- What fits in a table: few nodes, and all clauses within the limit that are not too many.
use Rattle.std.proofs.Common.{◌≡◌, ◌↔◌, ℕ, ◌+◌, ◌≤◌, Bool, true, false, not, cond, List, [], ◌∷◌, ◌++◌, length, map, refl, sym, ◌∙◌, ap, arith, length-append}
use Rattle.std.specs.Prelude.{filter, flat_map}
use Rattle.std.specs.List.{AllByRecursion, list_any}
use Rattle.std.proofs.lemmas.Bool.Decides.{nat_tests}
use Rattle.std.proofs.lemmas.Grind.{flat_map-append}
use Rattle.std.proofs.lemmas.List.{append-nil}
use Rattle.std.proofs.lemmas.List.Folds.{flat_map-map}
use Rattle.spec_trees.specs.Tree.{Trees, Leaf, Node, none, more, trees, items_of, size, sizes}
use Rattle.spec_trees.proofs.Measures.{size-le-bind, size-bind-le}
use Rattle.spec_trees.proofs.Rows.{sizes-append}
use Rattle.spec_trees.proofs.Occurrence.{or_false}
use Rattle.spec_calculus.specs.Bounds.{most_symbols}
use Rattle.spec_terms.specs.Term.{Sym, Term}
use Rattle.spec_clauses.specs.Fact.{Fact, Clause, terms_of, total, fact_size, clause_size, same_term}
use Rattle.spec_clauses.specs.Diff.{Side, Diff, diff_size}
use Rattle.spec_certificate_text.specs.Sides.{first_bound, slot_number, side_term, spelled_diff, spelled_clause, sides_in_order}
use Rattle.spec_clauses.specs.Limits.{IsWithinLimit}
use Rattle.spec_clauses.specs.Norm.{distinct}
use Rattle.spec_clauses.specs.Inclusion.{Has}
use Rattle.spec_clauses.proofs.Lists.{all_append, all_first, all_second, all_weaker, all-flat_map}
use Rattle.spec_clauses.proofs.Inclusion.{all_has}
use Rattle.spec_clauses.proofs.Parts.{fact_size-parts}
use Rattle.spec_node_tables.specs.Table.{walk, walk_row, spelled_terms, terms_in_order, table, arguments_of, IsSubterm, itself, of_argument}
use Rattle.spec_node_tables.specs.Large.{most_certificate_symbols, up_to_terms, Piece, fact_piece, diff_piece, pieces, piece_size, up_to_piece, up_to_pieces, up_to_clause, up_to_clauses, AreUpTo, FitsInNodes, is_over, some_over, is_large_in_nodes}
use Rattle.spec_node_tables.proofs.Walks.{table_has}
use Rattle.spec_node_tables.proofs.Back.{all_there}

-- Sums.

pub total-append : {X : Type 0} (f : X → ℕ) (xs ys : List X) → total f (xs ++ ys) ≡ total f xs + total f ys
total-append f [] ys = omega arith
total-append f (x ∷ xs) ys = omega (arith, total-append f xs ys)

each_in_total : {X : Type 0} (f : X → ℕ) (xs : List X) → AllByRecursion (λ x. f x ≤ total f xs) xs
each_in_total f [] = tt
each_in_total f (x ∷ xs) = (omega arith, all_weaker (λ y. f y ≤ total f xs) (λ y. f y ≤ total f (x ∷ xs)) (λ y h. omega arith) xs (each_in_total f xs))

-- The parts of a clause have its symbols, and its terms.

side_size : (t : Side) → size (side_term t) ≡ size t
side_size t =
    let up = size-le-bind (λ k. Leaf (slot_number first_bound k)) t in
    let down = size-bind-le (λ k. Leaf (slot_number first_bound k)) 1 (omega arith) (λ k. omega arith) t in
    omega (arith, up, down)

sides_size : (ts : List Side) → total size (map side_term ts) ≡ sizes (trees ts)
sides_size [] = refl
sides_size (t ∷ ts) = omega (arith, side_size t, sides_size ts)

pub diff_piece-size : (d : Diff) → piece_size (diff_piece d) ≡ diff_size d
diff_piece-size d = omega (arith, total-append size (map side_term d.left) (map side_term d.right), sides_size d.left, sides_size d.right, sizes-append d.left d.right)

facts_total : (fs : List (Fact Term)) → total piece_size (map fact_piece fs) ≡ total fact_size fs
facts_total [] = refl
facts_total (f ∷ fs) = omega (arith, fact_size-parts f, facts_total fs)

diffs_total : (ds : List Diff) → total piece_size (map diff_piece ds) ≡ total diff_size ds
diffs_total [] = refl
diffs_total (d ∷ ds) = omega (arith, diff_piece-size d, diffs_total ds)

pub pieces_total : (c : Clause Term) → total piece_size (pieces c) ≡ clause_size c
pieces_total c =
    let last : List Piece = fact_piece c.conclusion ∷ [] in
    omega (
      arith,
      total-append piece_size (map fact_piece c.hypotheses) (map diff_piece c.diffs ++ last),
      total-append piece_size (map diff_piece c.diffs) last,
      facts_total c.hypotheses,
      diffs_total c.diffs,
      fact_size-parts c.conclusion,
    )

abbrev pub piece_terms : Piece → List Term
piece_terms p = p.terms

pub pieces_terms : (c : Clause Term) → flat_map piece_terms (pieces c) ≡ spelled_terms (spelled_clause c)
pieces_terms c =
    let last : List Piece = fact_piece c.conclusion ∷ [] in
    let facts : flat_map piece_terms (map fact_piece c.hypotheses) ≡ flat_map terms_of c.hypotheses = flat_map-map piece_terms fact_piece c.hypotheses in
    let sides : flat_map piece_terms (map diff_piece c.diffs) ≡ flat_map sides_in_order (map spelled_diff c.diffs) = flat_map-map piece_terms diff_piece c.diffs ∙ sym (flat_map-map sides_in_order spelled_diff c.diffs) in
    let end : flat_map piece_terms last ≡ terms_of c.conclusion = append-nil (terms_of c.conclusion) in
    let others : flat_map piece_terms (map diff_piece c.diffs ++ last) ≡ flat_map sides_in_order (map spelled_diff c.diffs) ++ terms_of c.conclusion =
    flat_map-append piece_terms (map diff_piece c.diffs) last ∙ (λ i. sides i ++ end i) in
    flat_map-append piece_terms (map fact_piece c.hypotheses) (map diff_piece c.diffs ++ last) ∙ (λ i. facts i ++ others i)

terms_total : (ps : List Piece) → total size (flat_map piece_terms ps) ≤ total piece_size ps
terms_total [] = omega arith
terms_total (p ∷ ps) = omega (arith, total-append size p.terms (flat_map piece_terms ps), terms_total ps)

spelled_within : (c : Clause Term) → total size (spelled_terms (spelled_clause c)) ≤ clause_size c
spelled_within c = omega (arith, ap (total size) (pieces_terms c), terms_total (pieces c), pieces_total c)

-- Few nodes.

mutual
  walk_length : (t : Term) → length (walk t) ≡ size t
  walk_length (Leaf x) = refl
  walk_length (Node f args) = omega (arith, length-append (walk_row args) (Node f args ∷ []), row_length args)

  row_length : (ts : Trees ℕ Sym) → length (walk_row ts) ≡ sizes ts
  row_length none = refl
  row_length (more t ts) = omega (arith, length-append (walk t) (walk_row ts), walk_length t, row_length ts)

walks_length : (ts : List Term) → length (flat_map walk ts) ≡ total size ts
walks_length [] = refl
walks_length (t ∷ ts) = omega (arith, length-append (walk t) (flat_map walk ts), walk_length t, walks_length ts)

filter_length : (test : Term → Bool) (xs : List Term) → length (filter test xs) ≤ length xs
filter_length test [] = omega arith
filter_length test (x ∷ xs) =
    let later = filter_length test xs in
    elim (test x) as (λ b. length (cond b (x ∷ filter test xs) (filter test xs)) ≤ length (x ∷ xs)) [ true ↦ omega arith | false ↦ omega arith ]

distinct_length : (xs : List Term) → length (distinct same_term xs) ≤ length xs
distinct_length [] = omega arith
distinct_length (x ∷ xs) = omega (arith, filter_length (λ y. not (same_term x y)) (distinct same_term xs), distinct_length xs)

-- the symbols of the terms alone, where those up to each term are within the limit
module _ (most : ℕ) where
  terms_up_to : (ts : List Term) (own before : ℕ) → own ≤ before → own ≤ most → AreUpTo most (up_to_terms before ts) → own + total size ts ≤ most
  terms_up_to [] own before less within are = omega arith
  terms_up_to (t ∷ ts) own before less within are =
      let first = are.0 in
      let later = terms_up_to ts (own + size t) (before + size t) (omega arith) (omega arith) are.1 in omega arith

  pieces_up_to : (ps : List Piece) (own before : ℕ) → own ≤ before → own ≤ most → AreUpTo most (up_to_pieces before ps) → own + total size (flat_map piece_terms ps) ≤ most
  pieces_up_to [] own before less within are = omega arith
  pieces_up_to (p ∷ ps) own before less within are =
      let first = terms_up_to p.terms own (before + p.signs) (omega arith) within (all_first (λ n. n ≤ most) (up_to_piece before p) (up_to_pieces (before + piece_size p) ps) are) in
      let later = pieces_up_to ps (own + total size p.terms) (before + piece_size p) (omega arith) first (all_second (λ n. n ≤ most) (up_to_piece before p) (up_to_pieces (before + piece_size p) ps) are) in
      omega (arith, total-append size p.terms (flat_map piece_terms ps))

  clauses_up_to : (cs : List (Clause Term)) (own before : ℕ) → own ≤ before → own ≤ most → AreUpTo most (up_to_clauses before cs) → own + total size (terms_in_order cs) ≤ most
  clauses_up_to [] own before less within are = omega arith
  clauses_up_to (c ∷ cs) own before less within are =
      let here = up_to_pieces before (pieces c) in
      let behind = up_to_clauses (before + clause_size c) cs in
      let first = pieces_up_to (pieces c) own before less within (all_first (λ n. n ≤ most) here behind are) in
      let sums = terms_total (pieces c) in
      let whole = pieces_total c in
      let later = clauses_up_to cs (own + total size (flat_map piece_terms (pieces c))) (before + clause_size c) (omega arith) first (all_second (λ n. n ≤ most) here behind are) in
      let same = ap (total size) (pieces_terms c) in
      let split = total-append size (spelled_terms (spelled_clause c)) (terms_in_order cs) in
      omega arith

  -- and the other way round: where all symbols are within the limit, so are those up to each term
  terms_within : (ts : List Term) (before : ℕ) → before + total size ts ≤ most → AreUpTo most (up_to_terms before ts)
  terms_within [] before within = tt
  terms_within (t ∷ ts) before within = (omega arith, terms_within ts (before + size t) (omega arith))

  pieces_within : (ps : List Piece) (before : ℕ) → before + total piece_size ps ≤ most → AreUpTo most (up_to_pieces before ps)
  pieces_within [] before within = tt
  pieces_within (p ∷ ps) before within =
      all_append (λ n. n ≤ most) (up_to_piece before p) (up_to_pieces (before + piece_size p) ps)
      (terms_within p.terms (before + p.signs) (omega arith)) (pieces_within ps (before + piece_size p) (omega arith))

  clauses_within : (cs : List (Clause Term)) (before : ℕ) → before + total clause_size cs ≤ most → AreUpTo most (up_to_clauses before cs)
  clauses_within [] before within = tt
  clauses_within (c ∷ cs) before within =
      let whole = pieces_total c in
      all_append (λ n. n ≤ most) (up_to_pieces before (pieces c)) (up_to_clauses (before + clause_size c) cs)
      (pieces_within (pieces c) before (omega arith)) (clauses_within cs (before + clause_size c) (omega arith))

pub few_nodes : (cs : List (Clause Term)) → FitsInNodes cs → length (table cs) ≤ most_certificate_symbols
few_nodes cs fits =
    let symbols = clauses_up_to most_certificate_symbols cs 0 0 (omega arith) (omega arith) fits.together in
    omega (arith, distinct_length (flat_map walk (terms_in_order cs)), walks_length (terms_in_order cs))

-- Subterms are no larger.

items_size : (ts : Trees ℕ Sym) → AllByRecursion (λ u. size u ≤ sizes ts) (items_of ts)
items_size none = tt
items_size (more t ts) = (omega arith, all_weaker (λ u. size u ≤ sizes ts) (λ u. size u ≤ size t + sizes ts) (λ u h. omega arith) (items_of ts) (items_size ts))

argument_size : (v u : Term) → Has (arguments_of v) u → size u ≤ size v
argument_size (Leaf x) u h = elim h.1 [ ]
argument_size (Node f args) u h = let within = all_has (λ w. size w ≤ sizes args) (items_of args) u (items_size args) h in omega arith

pub subterm_size : {t u : Term} → IsSubterm t u → size t ≤ size u
subterm_size itself = omega arith
subterm_size (of_argument {u = u} {v = v} has within) = omega (arith, subterm_size within, argument_size v u has)

clause_terms_within : (c : Clause Term) → IsWithinLimit c → AllByRecursion (λ t. size t ≤ most_symbols) (spelled_terms (spelled_clause c))
clause_terms_within c within =
    let ts = spelled_terms (spelled_clause c) in
    let sum = spelled_within c in
    all_weaker (λ t. size t ≤ total size ts) (λ t. size t ≤ most_symbols) (λ t h. omega arith) ts (each_in_total size ts)

ordered_terms_within : (cs : List (Clause Term)) → AllByRecursion IsWithinLimit cs → AllByRecursion (λ t. size t ≤ most_symbols) (terms_in_order cs)
ordered_terms_within cs within =
    all-flat_map (λ t. size t ≤ most_symbols) (λ c. spelled_terms (spelled_clause c)) cs
    (all_weaker IsWithinLimit (λ c. AllByRecursion (λ t. size t ≤ most_symbols) (spelled_terms (spelled_clause c))) (λ c h. clause_terms_within c h) cs within)

node_within : (cs : List (Clause Term)) → AllByRecursion IsWithinLimit cs → (t : Term) → Has (table cs) t → size t ≤ most_symbols
node_within cs within t h =
    let (u, has, sub) = (table_has cs t).0 h in
    let large = all_has (λ v. size v ≤ most_symbols) (terms_in_order cs) u (ordered_terms_within cs within) has in
    omega (arith, subterm_size sub)

pub fits_within : (cs : List (Clause Term)) → AllByRecursion IsWithinLimit cs → total clause_size cs ≤ most_certificate_symbols → FitsInNodes cs
fits_within cs within together = record {
  nodes = all_weaker (Has (table cs)) (λ t. size t ≤ most_symbols) (λ t h. node_within cs within t h) (table cs) (all_there (table cs));
  clauses = all_weaker IsWithinLimit (λ c. AreUpTo most_symbols (up_to_clause 0 c))
      (λ c h. let whole = pieces_total c in pieces_within most_symbols (pieces c) 0 (omega arith)) cs within;
  together = clauses_within most_certificate_symbols cs 0 (omega arith);
}

-- The test.

none_passes : {X : Type 0} (test : X → Bool) (Q : X → Type 0) → ((x : X) → (test x ≡ false) ↔ Q x) → (xs : List X) → (list_any test xs ≡ false) ↔ AllByRecursion Q xs
none_passes test Q decides [] = (λ e. tt, λ all. refl)
none_passes test Q decides (x ∷ xs) =
    let later = none_passes test Q decides xs in (
      λ e. let parts = or_false (test x) (list_any test xs) e in ((decides x).0 parts.0, later.0 parts.1),
      λ all. let first : test x ≡ false = (decides x).1 all.0 in let others : list_any test xs ≡ false = later.1 all.1 in rw first others,
    )

over_decides : (most n : ℕ) → (is_over most n ≡ false) ↔ (n ≤ most)
over_decides most n = (λ e. grind (arith, nat_tests), λ h. grind (arith, nat_tests))

some_over_decides : (most : ℕ) (ns : List ℕ) → (some_over most ns ≡ false) ↔ AreUpTo most ns
some_over_decides most ns = none_passes (is_over most) (λ n. n ≤ most) (over_decides most) ns

pub large_decides : (cs : List (Clause Term)) → (is_large_in_nodes cs ≡ false) ↔ FitsInNodes cs
large_decides cs =
    let nodes = none_passes (λ t. is_over most_symbols (size t)) (λ t. size t ≤ most_symbols) (λ t. over_decides most_symbols (size t)) (table cs) in
    let clauses = none_passes (λ c. some_over most_symbols (up_to_clause 0 c)) (λ c. AreUpTo most_symbols (up_to_clause 0 c)) (λ c. some_over_decides most_symbols (up_to_clause 0 c)) cs in
    let together = some_over_decides most_certificate_symbols (up_to_clauses 0 cs) in (
      λ e.
          let first = or_false (list_any (λ t. is_over most_symbols (size t)) (table cs)) _ e in
          let second = or_false (list_any (λ c. some_over most_symbols (up_to_clause 0 c)) cs) (some_over most_certificate_symbols (up_to_clauses 0 cs)) first.1 in
          record { nodes = nodes.0 first.0; clauses = clauses.0 second.0; together = together.0 second.1 },
      λ fits.
          let first : list_any (λ t. is_over most_symbols (size t)) (table cs) ≡ false = nodes.1 fits.nodes in
          let second : list_any (λ c. some_over most_symbols (up_to_clause 0 c)) cs ≡ false = clauses.1 fits.clauses in
          let third : some_over most_certificate_symbols (up_to_clauses 0 cs) ≡ false = together.1 fits.together in
          rw (first, second) third,
    )
