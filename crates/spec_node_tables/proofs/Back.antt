-- The certificate that is meant by a certificate by numbers is the one that it was made of.
use Rattle.std.proofs.Common.{◌≡◌, List, [], ◌∷◌, ◌++◌, map, slice_get, unwrap_or, refl, sym, ◌∙◌, ap, subst}
use Rattle.std.specs.Prelude.{flat_map}
use Rattle.std.specs.List.{AllByRecursion}
use Rattle.std.proofs.lemmas.List.{append_assoc, append-nil}
use Rattle.spec_trees.specs.Tree.{Leaf, Node, node, items_of}
use Rattle.spec_trees.proofs.Rows.{trees-items_of}
use Rattle.spec_terms.specs.Term.{Term}
use Rattle.spec_clauses.specs.Diff.{Diff, sides, side_slots}
use Rattle.spec_clauses.specs.Fact.{Fact, Clause, terms_of, map_fact}
use Rattle.spec_clauses.specs.Inclusion.{here, there, Has}
use Rattle.spec_clauses.proofs.Lists.{all_append, all_weaker, all_first, all_second, all-flat_map, all-from_flat_map}
use Rattle.spec_clauses.proofs.Facts.{map_fact-map_fact, map_fact-agree, map_fact-id}
use Rattle.spec_certificates.specs.Certificate.{Certificate}
use Rattle.spec_certificate_text.specs.OfProtocol.{IsOwnShort}
use Rattle.spec_certificate_text.specs.Sides.{SidesOf, SpelledClause, sides_in_order, spelled_diff, meant_diff, spelled_clause, meant_clause, map_sides, map_spelled}
use Rattle.spec_certificate_text.proofs.Sides.{diff_meant}
use Rattle.spec_node_tables.specs.Table.{spelled_terms, terms_in_order, table, number_in, arguments_of, itself}
use Rattle.spec_node_tables.specs.Nodes.{node_of, with_nodes, term_at, term_of, terms_from, without_nodes, HasShortDiffs}
use Rattle.spec_node_tables.proofs.Walks.{ArgumentsFirst, table_first, table_has}
use Rattle.spec_node_tables.proofs.Numbers.{at_place, place_before}

-- what a list has, all of its items stand in it
pub all_there : {X : Type 0} (xs : List X) → AllByRecursion (Has xs) xs
all_there [] = tt
all_there {X} (x ∷ xs) = ((xs, here), all_weaker (Has xs) (Has (x ∷ xs)) (λ y h. (x ∷ h.0, there h.1)) xs (all_there xs))

term_back : (ts us : List Term) (t : Term) → Has ts t → term_at ts (number_in (ts ++ us) t) ≡ t
term_back ts us t h =
    ap (λ n. unwrap_or (slice_get ts n) (Leaf 0)) (place_before ts us t h) ∙ ap (λ o. unwrap_or o (Leaf 0)) (at_place ts t h)

pub mapped_back : {X Y : Type 0} (g : Y → X) (f : X → Y) (xs : List X) → AllByRecursion (λ x. g (f x) ≡ x) xs → map g (map f xs) ≡ xs
mapped_back g f [] all = refl
mapped_back g f (x ∷ xs) all = let first = all.0 in let later = mapped_back g f xs all.1 in cc

pub node_back : (before ts : List Term) (t : Term) → AllByRecursion (Has before) (arguments_of t) → term_of before (node_of (before ++ ts) t) ≡ t
node_back before ts (Leaf x) stand = refl
node_back before ts (Node f args) stand =
    let numbers = all_weaker (Has before) (λ u. term_at before (number_in (before ++ ts) u) ≡ u) (λ u h. term_back before ts u h) (items_of args) stand in
    ap (λ us. node f us) (mapped_back (term_at before) (number_in (before ++ ts)) (items_of args) numbers) ∙ ap (Node f) (trees-items_of args)

nodes_back : (before ts : List Term) → ArgumentsFirst before ts → terms_from before (map (node_of (before ++ ts)) ts) ≡ before ++ ts
nodes_back before [] first = sym (append-nil before)
nodes_back before (t ∷ ts) first =
    let whole : before ++ (t ∷ []) ++ ts ≡ before ++ (t ∷ ts) = append_assoc before (t ∷ []) ts in
    let later = nodes_back (before ++ (t ∷ [])) ts first.1 in
    let moved : terms_from (before ++ (t ∷ [])) (map (node_of (before ++ (t ∷ ts))) ts) ≡ before ++ (t ∷ ts) = subst (λ all. terms_from (before ++ (t ∷ [])) (map (node_of all) ts) ≡ all) whole later in
    ap (λ u. terms_from (before ++ (u ∷ [])) (map (node_of (before ++ (t ∷ ts))) ts)) (node_back before (t ∷ ts) t first.0) ∙ moved

pub table_back : (cs : List (Clause Term)) → terms_from [] (map (node_of (table cs)) (table cs)) ≡ table cs
table_back cs = nodes_back [] (table cs) (table_first cs)

-- the terms of all clauses stand in their table
pub terms_stand : (cs : List (Clause Term)) → AllByRecursion (λ c. AllByRecursion (Has (table cs)) (spelled_terms (spelled_clause c))) cs
terms_stand cs =
    let each = all_weaker (Has (terms_in_order cs)) (Has (table cs)) (λ t h. (table_has cs t).1 (t, h, itself)) (terms_in_order cs) (all_there (terms_in_order cs)) in
    all-from_flat_map (Has (table cs)) (λ c. spelled_terms (spelled_clause c)) cs each

-- What holds of all terms of a clause as it is spelled holds of those of its parts.
pub record HoldsOfParts {X : Type 0} (Q : X → Type 0) (c : SpelledClause X) : Type 0 where
  pub hypotheses : AllByRecursion (λ f. AllByRecursion Q (terms_of f)) c.hypotheses
  pub left : AllByRecursion (λ s. AllByRecursion Q s.left) c.diffs
  pub right : AllByRecursion (λ s. AllByRecursion Q s.right) c.diffs
  pub conclusion : AllByRecursion Q (terms_of c.conclusion)

pub of_parts : {X : Type 0} (Q : X → Type 0) (c : SpelledClause X) → AllByRecursion Q (spelled_terms c) → HoldsOfParts Q c
of_parts Q c all =
    let facts = flat_map terms_of c.hypotheses in
    let sides = flat_map sides_in_order c.diffs in
    let behind = all_second Q facts (sides ++ terms_of c.conclusion) all in
    let each = all-from_flat_map Q sides_in_order c.diffs (all_first Q sides (terms_of c.conclusion) behind) in
    record {
      hypotheses = all-from_flat_map Q terms_of c.hypotheses (all_first Q facts (sides ++ terms_of c.conclusion) all);
      left = all_weaker (λ s. AllByRecursion Q (sides_in_order s)) (λ s. AllByRecursion Q s.left) (λ s h. all_first Q s.left s.right h) c.diffs each;
      right = all_weaker (λ s. AllByRecursion Q (sides_in_order s)) (λ s. AllByRecursion Q s.right) (λ s h. all_second Q s.left s.right h) c.diffs each;
      conclusion = all_second Q sides (terms_of c.conclusion) behind;
    }

pub with_parts : {X : Type 0} (Q : X → Type 0) (c : SpelledClause X) → HoldsOfParts Q c → AllByRecursion Q (spelled_terms c)
with_parts {X = X} Q c parts =
    let sides = flat_map sides_in_order c.diffs in
    all_append Q (flat_map terms_of c.hypotheses) (sides ++ terms_of c.conclusion) (all-flat_map Q terms_of c.hypotheses parts.hypotheses)
    (all_append Q sides (terms_of c.conclusion) (all-flat_map Q sides_in_order c.diffs (joined c.diffs parts.left parts.right)) parts.conclusion)
  where
    joined : (ds : List (SidesOf X)) → AllByRecursion (λ s. AllByRecursion Q s.left) ds → AllByRecursion (λ s. AllByRecursion Q s.right) ds → AllByRecursion (λ s. AllByRecursion Q (sides_in_order s)) ds
    joined [] lefts rights = tt
    joined (d ∷ ds) lefts rights = (all_append Q d.left d.right lefts.0 rights.0, joined ds lefts.1 rights.1)

-- Where g takes each term of a clause back from what f makes of it, it takes the clause back.
module _ {X Y : Type 0} (g : Y → X) (f : X → Y) where
  abbrev Back : X → Type 0
  Back x = g (f x) ≡ x

  fact_back : (h : Fact X) → AllByRecursion Back (terms_of h) → map_fact g (map_fact f h) ≡ h
  fact_back h each = map_fact-map_fact g f h ∙ (map_fact-agree (λ x. g (f x)) (λ x. x) h each ∙ map_fact-id h)

  sides_back : (ds : List (SidesOf X)) → AllByRecursion (λ s. AllByRecursion Back s.left) ds → AllByRecursion (λ s. AllByRecursion Back s.right) ds → map (map_sides g) (map (map_sides f) ds) ≡ ds
  sides_back [] lefts rights = refl
  sides_back (d ∷ ds) lefts rights =
      let left = mapped_back g f d.left lefts.0 in
      let right = mapped_back g f d.right rights.0 in
      let others = sides_back ds lefts.1 rights.1 in
      λ i. record { left = left i; right = right i } ∷ others i

  pub spelled_back : (c : SpelledClause X) → AllByRecursion Back (spelled_terms c) → map_spelled g (map_spelled f c) ≡ c
  spelled_back c all =
      let parts = of_parts Back c all in
      let hypotheses = mapped_back (map_fact g) (map_fact f) c.hypotheses (all_weaker (λ h. AllByRecursion Back (terms_of h)) (λ h. map_fact g (map_fact f h) ≡ h) (λ h each. fact_back h each) c.hypotheses parts.hypotheses) in
      let sides = sides_back c.diffs parts.left parts.right in
      let conclusion = fact_back c.conclusion parts.conclusion in
      λ i. record { hypotheses = hypotheses i; diffs = sides i; conclusion = conclusion i }

module _ (ts : List Term) where
  -- a clause as it is spelled, from its numbers
  pub by_numbers_back : (c : Clause Term) → AllByRecursion (Has ts) (spelled_terms (spelled_clause c)) → map_spelled (term_at ts) (map_spelled (number_in ts) (spelled_clause c)) ≡ spelled_clause c
  by_numbers_back c stand =
      spelled_back (term_at ts) (number_in ts) (spelled_clause c)
      (all_weaker (Has ts) (λ t. term_at ts (number_in ts t) ≡ t) (λ t h. ap (λ o. unwrap_or o (Leaf 0)) (at_place ts t h)) (spelled_terms (spelled_clause c)) stand)

  diffs_back : (ds : List Diff) → AllByRecursion (λ d. AllByRecursion IsOwnShort (side_slots (sides d))) ds → map meant_diff (map spelled_diff ds) ≡ ds
  diffs_back [] short = refl
  diffs_back (d ∷ ds) short = let first = diff_meant d short.0 in let others = diffs_back ds short.1 in λ i. first i ∷ others i

  clause_back : (c : Clause Term) → HasShortDiffs c → AllByRecursion (Has ts) (spelled_terms (spelled_clause c)) → meant_clause (map_spelled (term_at ts) (map_spelled (number_in ts) (spelled_clause c))) ≡ c
  clause_back c short stand =
      let diffs = diffs_back c.diffs short in
      ap meant_clause (by_numbers_back c stand) ∙ (λ i. record { hypotheses = c.hypotheses; diffs = diffs i; conclusion = c.conclusion })

  clauses_back : (cs : List (Clause Term)) → AllByRecursion HasShortDiffs cs → AllByRecursion (λ c. AllByRecursion (Has ts) (spelled_terms (spelled_clause c))) cs
      → map (λ s. meant_clause (map_spelled (term_at ts) s)) (map (λ c. map_spelled (number_in ts) (spelled_clause c)) cs) ≡ cs
  clauses_back [] short stand = refl
  clauses_back (c ∷ cs) short stand = let first = clause_back c short.0 stand.0 in let others = clauses_back cs short.1 stand.1 in λ i. first i ∷ others i

pub certificate_back : (c : Certificate) → AllByRecursion HasShortDiffs c.clauses → without_nodes (with_nodes c) ≡ c
certificate_back c short =
    let ts = table c.clauses in
    let numbered = map (λ c. map_spelled (number_in ts) (spelled_clause c)) c.clauses in
    let clauses : map (λ s. meant_clause (map_spelled (term_at (terms_from [] (map (node_of ts) ts))) s)) numbered ≡ c.clauses =
    ap (λ us. map (λ s. meant_clause (map_spelled (term_at us) s)) numbered) (table_back c.clauses) ∙ clauses_back ts c.clauses short (terms_stand c.clauses) in
    λ i. record { clauses = clauses i; rows = c.rows; goals = c.goals }
