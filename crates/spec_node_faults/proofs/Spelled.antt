-- The terms of a clause as it is spelled are made by numbers one by one, and meant by them so.
use Rattle.std.proofs.Common.{◌≡◌, ℕ, List, [], ◌∷◌, ◌++◌, map, refl, sym, ◌∙◌, ap}
use Rattle.std.specs.Prelude.{flat_map}
use Rattle.std.proofs.lemmas.List.{map-append}
use Rattle.spec_terms.specs.Term.{Term}
use Rattle.spec_clauses.specs.Fact.{Fact, Clause, terms_of, map_fact}
use Rattle.spec_clauses.proofs.Parts.{terms_of-map}
use Rattle.spec_certificate_text.specs.Sides.{SidesOf, SpelledClause, sides_in_order, spelled_clause, meant_clause, map_sides, map_spelled}
use Rattle.spec_node_tables.specs.Table.{spelled_terms, terms_in_order}
use Rattle.spec_node_tables.proofs.Ordered.{clause_spelled}

module _ {X Y : Type 0} (f : X → Y) where
  facts_mapped : (fs : List (Fact X)) → flat_map terms_of (map (map_fact f) fs) ≡ map f (flat_map terms_of fs)
  facts_mapped [] = refl
  facts_mapped (h ∷ hs) =
      let first = terms_of-map f h in
      let later = facts_mapped hs in
      (λ i. first i ++ later i) ∙ sym (map-append f (terms_of h) (flat_map terms_of hs))

  sides_mapped : (ds : List (SidesOf X)) → flat_map sides_in_order (map (map_sides f) ds) ≡ map f (flat_map sides_in_order ds)
  sides_mapped [] = refl
  sides_mapped (d ∷ ds) =
      let first : map f d.left ++ map f d.right ≡ map f (sides_in_order d) = sym (map-append f d.left d.right) in
      let later = sides_mapped ds in
      (λ i. first i ++ later i) ∙ sym (map-append f (sides_in_order d) (flat_map sides_in_order ds))

  spelled_mapped : (c : SpelledClause X) → spelled_terms (map_spelled f c) ≡ map f (spelled_terms c)
  spelled_mapped c =
      let facts = facts_mapped c.hypotheses in
      let sides = sides_mapped c.diffs in
      let last = terms_of-map f c.conclusion in
      let behind = flat_map sides_in_order c.diffs ++ terms_of c.conclusion in
      (λ i. facts i ++ (sides i ++ last i))
      ∙ (ap (λ ys. map f (flat_map terms_of c.hypotheses) ++ ys) (sym (map-append f (flat_map sides_in_order c.diffs) (terms_of c.conclusion))) ∙ sym (map-append f (flat_map terms_of c.hypotheses) behind))

pub values_mapped : (f : Term → ℕ) (cs : List (Clause Term)) → flat_map spelled_terms (map (λ c. map_spelled f (spelled_clause c)) cs) ≡ map f (terms_in_order cs)
values_mapped f [] = refl
values_mapped f (c ∷ cs) =
    let first = spelled_mapped f (spelled_clause c) in
    let later = values_mapped f cs in
    (λ i. first i ++ later i) ∙ sym (map-append f (spelled_terms (spelled_clause c)) (terms_in_order cs))

pub terms_meant_in_order : (f : ℕ → Term) (cs : List (SpelledClause ℕ)) → terms_in_order (map (λ c. meant_clause (map_spelled f c)) cs) ≡ map f (flat_map spelled_terms cs)
terms_meant_in_order f [] = refl
terms_meant_in_order f (c ∷ cs) =
    let first : spelled_terms (spelled_clause (meant_clause (map_spelled f c))) ≡ map f (spelled_terms c) = ap spelled_terms (clause_spelled (map_spelled f c)) ∙ spelled_mapped f c in
    let later = terms_meant_in_order f cs in
    (λ i. first i ++ later i) ∙ sym (map-append f (spelled_terms c) (flat_map spelled_terms cs))
