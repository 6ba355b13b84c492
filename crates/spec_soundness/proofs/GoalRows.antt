-- A clause is satisfied exactly where some goal row holds.
use Rattle.std.proofs.Common.{◌≡◌, ◌↔◌, ℕ, zero, suc, Some, List, [], ◌∷◌, map, refl, sym, subst}
use Rattle.std.specs.Prelude.{slice_get}
use Rattle.std.specs.List.{AllByRecursion}
use Rattle.spec_calculus.specs.Syntax.{EventTerm, Protocol}
use Rattle.spec_calculus.specs.Points.{numbered}
use Rattle.spec_terms.specs.Term.{Term}
use Rattle.spec_clauses.specs.Fact.{Fact, Clause, fact_under}
use Rattle.spec_clauses.specs.Inclusion.{Picks, here, there, Has}
use Rattle.spec_clauses.specs.Subsumption.{hypothesis_at}
use Rattle.spec_translation.specs.Goal.{required}
use Rattle.spec_translation.specs.Satisfied.{IsMet, GoalRowHolds}

-- what a list has stands at a place of it, and the other way round
place_of : {X : Type 0} {xs rest : List X} {x : X} → Picks xs x rest → (k : ℕ) × (slice_get xs k ≡ Some x)
place_of here = (0, refl)
place_of (there p) = let (k, e) = place_of p in (suc k, e)

stands_at : {X : Type 0} (xs : List X) (k : ℕ) (x : X) → slice_get xs k ≡ Some x → Has xs x
stands_at [] k x e = cc
stands_at (y ∷ xs) zero x e = let same : y ≡ x = cc in subst (Has (y ∷ xs)) same (xs, here)
stands_at (y ∷ xs) (suc k) x e = let found = stands_at xs k x e in (y ∷ found.0, there found.1)

-- a row of places for facts that all stand in the list, and back
module _ {X : Type 0} (f : X → Fact Term) (hs : List (Fact Term)) where
  row_of : (xs : List X) → AllByRecursion (λ x. Has hs (f x)) xs → (row : List ℕ) × (map (λ x. Some (f x)) xs ≡ map (hypothesis_at hs) row)
  row_of [] a = ([], refl)
  row_of (x ∷ xs) a =
      let (k, first) = place_of a.0.1 in
      let (row, others) = row_of xs a.1 in
      (suc k ∷ row, λ i. sym first i ∷ others i)

  hypothesis_there : (n : ℕ) (h : Fact Term) → Some h ≡ hypothesis_at hs n → Has hs h
  hypothesis_there zero h e = cc
  hypothesis_there (suc k) h e = stands_at hs k h (sym e)

  all_there : (xs : List X) (row : List ℕ) → map (λ x. Some (f x)) xs ≡ map (hypothesis_at hs) row → AllByRecursion (λ x. Has hs (f x)) xs
  all_there [] row e = tt
  all_there (x ∷ xs) [] e = cc
  all_there (x ∷ xs) (n ∷ row) e =
      let first : Some (f x) ≡ hypothesis_at hs n = cc in
      let rest : map (λ x. Some (f x)) xs ≡ map (hypothesis_at hs) row = cc in
      (hypothesis_there n (f x) first, all_there xs row rest)

module _ (P : Protocol) (left : EventTerm) (alternatives : List (List EventTerm)) (c : Clause Term) where
  row_shows : IsMet P left alternatives c → (number : ℕ) × (row : List ℕ) × GoalRowHolds P left alternatives c number row
  row_shows met =
      let (k, found) = place_of met.listed.1 in
      let (row, events) = row_of (λ e. fact_under met.by (required P e)) c.hypotheses met.alternative met.events in
      (suc k, row, record { by = met.by; conclusion = met.conclusion; alternative = met.alternative; numbered_so = found; events = events })

  alternative_there : (number : ℕ) (alternative : List EventTerm) → numbered alternatives number ≡ Some alternative → Has alternatives alternative
  alternative_there zero alternative e = cc
  alternative_there (suc k) alternative e = stands_at alternatives k alternative e

  met_by_row : (number : ℕ) × (row : List ℕ) × GoalRowHolds P left alternatives c number row → IsMet P left alternatives c
  met_by_row (number, row, h) = record {
    by = h.by;
    conclusion = h.conclusion;
    alternative = h.alternative;
    listed = alternative_there number h.alternative h.numbered_so;
    events = all_there (λ e. fact_under h.by (required P e)) c.hypotheses h.alternative row h.events;
  }

  pub rows_tell : IsMet P left alternatives c ↔ ((number : ℕ) × (row : List ℕ) × GoalRowHolds P left alternatives c number row)
  rows_tell = (row_shows, met_by_row)
