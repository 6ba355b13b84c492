-- The first clause of a list that subsumes another, with its first row.
use Rattle.std.proofs.Common.{◌≡◌, ◌∙◌, ℕ, zero, suc, ◌+◌, ◌<◌, ◌≤◌, Some, List, [], ◌∷◌, length, ap, sym, subst, inl, inr, arith}
use Rattle.std.specs.Prelude.{slice_get}
use Rattle.std.specs.List.{list_all}
use Rattle.std.proofs.lemmas.Bool.{cases_lt}
use Rattle.spec_trees.proofs.Equality.{and_true}
use Rattle.spec_terms.specs.Term.{Term}
use Rattle.spec_clauses.specs.Fact.{Clause}
use Rattle.spec_clauses.specs.Flat.{is_flat}
use Rattle.spec_clauses.specs.Norm.{IsNormal}
use Rattle.spec_clauses.specs.Inclusion.{Has}
use Rattle.spec_clauses.specs.Subsumption.{IsCovered, RowHolds, IsFirstRow, ComesBefore}
use Rattle.spec_clauses.proofs.Subsumption.{subsumes_by_row}
use Rattle.spec_certificates.specs.Certificate.{CoverRowHolds}
use Rattle.spec_saturation.specs.Live.{MustBeCovered}
use Rattle.spec_saturation.proofs.Pairs.{number_of}
use Rattle.spec_verdicts.specs.FirstRows.{IsFirstCover}

-- none of the first k clauses has a row that holds
pub record NoneBefore (clauses : List (Clause Term)) (c : Clause Term) (k : ℕ) : Type 0 where
  pub none : (n : ℕ) (general : Clause Term) (positions : List ℕ) → n < k → slice_get clauses n ≡ Some general → RowHolds general c positions → ⊥

module _ (clauses : List (Clause Term)) (c : Clause Term) where
  pub none_begins : NoneBefore clauses c 0
  none_begins = record { none = λ n general positions less at h. absurd (omega (arith, less)) }

  pub none_next : (k : ℕ) (general : Clause Term) → slice_get clauses k ≡ Some general → ((row : List ℕ) → RowHolds general c row → ⊥) → NoneBefore clauses c k → NoneBefore clauses c (k + 1)
  none_next k general at never before = record {
    none = λ n other positions less found h. elim (cases_lt n k) as (λ _. ⊥) [
      | inl earlier ↦ before.none n other positions earlier found h
      | inr later ↦ (
          let same : n ≡ k = omega (arith, less, later) in
          let both : Some other ≡ Some general = sym found ∙ (ap (slice_get clauses) same ∙ at) in
          let one : other ≡ general = cc in
          never positions (subst (λ g. RowHolds g c positions) one h))
    ];
  }

  -- the next one has one: with its number it is the first
  found_at : (k : ℕ) (general : Clause Term) (row : List ℕ) → slice_get clauses k ≡ Some general → IsFirstRow general c row → NoneBefore clauses c k → IsFirstCover clauses c (suc k ∷ row)
  found_at k general row at is before = record { holds = (general, at, is.holds); first = first }
    where
      first : (other : List ℕ) → CoverRowHolds clauses other c → ComesBefore other (suc k ∷ row) → ⊥
      first [] h b = absurd h
      first (zero ∷ positions) h b = let none = h.1 in cc
      first (suc n ∷ positions) h (inl less) = before.none n h.0 positions (omega (arith, less)) h.1 h.2
      first (suc n ∷ positions) h (inr same) =
          let place : n ≡ k = let e = same.0 in omega (arith, e) in
          let both : Some h.0 ≡ Some general = sym h.1 ∙ (ap (slice_get clauses) place ∙ at) in
          let one : h.0 ≡ general = cc in
          is.first positions (subst (λ g. RowHolds g c positions) one h.2) same.1

  pub first_found : (k number : ℕ) (general : Clause Term) (row : List ℕ) → number ≡ k + 1 → slice_get clauses k ≡ Some general → IsFirstRow general c row → NoneBefore clauses c k → IsFirstCover clauses c (number ∷ row)
  first_found k number general row is at first before =
      let place : suc k ≡ number = omega (arith, is) in
      subst (λ n. IsFirstCover clauses c (n ∷ row)) place (found_at k general row at first before)

  -- one of them has, if the clause must be covered
  pub none_covers : ((d : Clause Term) → Has clauses d → IsNormal d) → (k : ℕ) → length clauses ≤ k → NoneBefore clauses c k → MustBeCovered clauses c → ⊥
  none_covers normal k past before must = must uncovered
    where
      within : (ds : List (Clause Term)) (n : ℕ) (d : Clause Term) → slice_get ds n ≡ Some d → n < length ds
      within [] n d e = cc
      within (x ∷ ds) zero d e = omega arith
      within (x ∷ ds) (suc n) d e = let h = within ds n d e in omega (arith, h)

      uncovered : IsCovered clauses c → ⊥
      uncovered (general, listed, subsumes) =
          let place = number_of clauses general listed in
          let flat_all = (and_true (is_flat general.conclusion) (list_all is_flat general.hypotheses) (normal general listed).flat).1 in
          let row = subsumes_by_row general c flat_all subsumes in
          let inside = within clauses place.0 general place.1 in
          before.none place.0 general row.0 (omega (arith, inside, past)) place.1 row.1
