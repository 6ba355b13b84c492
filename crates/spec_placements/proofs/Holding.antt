-- Rows that hold, and rows that place what is unplaced.
use Rattle.std.proofs.Common.{◌≡◌, ℕ, zero, suc, false, Bool, List, [], ◌∷◌, map, length, replicate, refl, sym, ap, ◌∙◌, subst, inl, inr, arith}
use Rattle.std.specs.Prelude.{Option, Some, slice_get}
use Rattle.std.proofs.Math.ListN.{length-replicate}
use Rattle.std.proofs.lemmas.Simd.{map-map}
use Rattle.spec_terms.specs.Term.{Term}
use Rattle.spec_terms.specs.Binding.{Binding}
use Rattle.spec_clauses.specs.Fact.{Fact, Clause, fact_under}
use Rattle.spec_clauses.specs.Flat.{flat_under}
use Rattle.spec_clauses.specs.Inclusion.{IsWithin}
use Rattle.spec_clauses.specs.Subsumption.{firm, hypothesis_at, RowHolds, ComesBefore, IsFirstRow, others}
use Rattle.spec_placements.specs.Placing.{loose_variables, all_known, ending_of, FactMatched, HoldsFrom, IsFirstFrom, CanPlace}
use Rattle.spec_placements.proofs.Loose.{loose_is_known}
use Rattle.spec_placements.proofs.Standing.{row_placed}
use Rattle.spec_placements.proofs.TakenRows.{takes_all, all_takes}

-- a row that holds is one of positions from 1 on
positions_from_one : (hs ys : List (Fact Term)) (f : Fact Term → Fact Term) (row : List ℕ) → map (λ h. Some (f h)) ys ≡ map (hypothesis_at hs) row → (inner : List ℕ) × (row ≡ map suc inner)
positions_from_one hs ys f [] e = ([], refl)
positions_from_one hs [] f (p ∷ row) e = cc
positions_from_one hs (y ∷ ys) f (zero ∷ row) e = cc
positions_from_one hs (y ∷ ys) f (suc p ∷ row) e =
    let rows : ◌≡◌ {A = List (Option (Fact Term))} (Some (f y) ∷ map (λ h. Some (f h)) ys) (slice_get hs p ∷ map (hypothesis_at hs) row) = e in
    let below = positions_from_one hs ys f row (cc) in
    (p ∷ below.0, ap (λ ps. suc p ∷ ps) below.1)

pub inner_row : (general special : Clause Term) (row : List ℕ) → RowHolds general special row → (inner : List ℕ) × (row ≡ map suc inner)
inner_row general special row h = positions_from_one special.hypotheses (firm general.hypotheses) (fact_under h.by) row h.firmly

module _ (bs : List Binding) (general special : Clause Term) (m : FactMatched [] bs general.conclusion special.conclusion) where
  -- nothing is taken
  abbrev none : List Bool
  none = replicate (length special.hypotheses) false

  pub holds_from : (row : List ℕ) → RowHolds general special (map suc row) → HoldsFrom bs none special.hypotheses (firm general.hypotheses) (ending_of general special) row
  holds_from row h =
      let loosely = subst (λ fs. IsWithin (flat_under h.by fs) (others (map suc row) 1 special.hypotheses)) (loose_is_known general.hypotheses) h.loosely in
      record {
        by = h.by;
        agrees = (m.only h.by).1 (tt, h.conclusion);
        kept = h.diffs;
        takes = all_takes special.hypotheses (map (fact_under h.by) (firm general.hypotheses)) row (flat_under h.by (all_known (loose_variables general.hypotheses))) (record {
          distinct = h.distinct;
          firmly = map-map Some (fact_under h.by) (firm general.hypotheses) ∙ h.firmly;
          loosely = loosely;
        });
      }

  pub from_holds : (row : List ℕ) → HoldsFrom bs none special.hypotheses (firm general.hypotheses) (ending_of general special) row → RowHolds general special (map suc row)
  from_holds row h =
      let a = takes_all special.hypotheses (map (fact_under h.by) (firm general.hypotheses)) row (flat_under h.by (all_known (loose_variables general.hypotheses))) h.takes in
      record {
        by = h.by;
        distinct = a.distinct;
        conclusion = ((m.only h.by).0 h.agrees).1;
        firmly = sym (map-map Some (fact_under h.by) (firm general.hypotheses)) ∙ a.firmly;
        loosely = subst (λ fs. IsWithin (flat_under h.by fs) (others (map suc row) 1 special.hypotheses)) (sym (loose_is_known general.hypotheses)) a.loosely;
        diffs = h.kept;
      }

-- the order of rows doesn't depend on where positions count from
pub before_suc : (row other : List ℕ) → ComesBefore row other → ComesBefore (map suc row) (map suc other)
before_suc [] other b = absurd b
before_suc (p ∷ row) [] b = absurd b
before_suc (p ∷ row) (q ∷ other) (inl less) = inl (omega arith)
before_suc (p ∷ row) (q ∷ other) (inr same) = inr (ap suc same.0, before_suc row other same.1)

pub suc_before : (row other : List ℕ) → ComesBefore (map suc row) (map suc other) → ComesBefore row other
suc_before [] other b = absurd b
suc_before (p ∷ row) [] b = absurd b
suc_before (p ∷ row) (q ∷ other) (inl less) = inl (omega arith)
suc_before (p ∷ row) (q ∷ other) (inr same) = let e = same.0 in inr (omega arith, suc_before row other same.1)

module _ (bs : List Binding) (general special : Clause Term) (m : FactMatched [] bs general.conclusion special.conclusion) where
  abbrev nothing : List Bool
  nothing = replicate (length special.hypotheses) false

  pub first_from : (row : List ℕ) → IsFirstRow general special (map suc row) → IsFirstFrom bs nothing special.hypotheses (firm general.hypotheses) (ending_of general special) row
  first_from row h = record {
    holds = holds_from bs general special m row h.holds;
    first = λ other held before. h.first (map suc other) (from_holds bs general special m other held) (before_suc other row before);
  }

  pub from_first : (row : List ℕ) → IsFirstFrom bs nothing special.hypotheses (firm general.hypotheses) (ending_of general special) row → IsFirstRow general special (map suc row)
  from_first row h = record {
    holds = from_holds bs general special m row h.holds;
    first = λ other held before.
        let (inner, same) = inner_row general special other held in
        h.first inner (holds_from bs general special m inner (subst (RowHolds general special) same held)) (suc_before inner row (subst (λ ps. ComesBefore ps (map suc row)) same before));
  }

  pub no_row : (row : List ℕ) → (CanPlace bs nothing special.hypotheses (firm general.hypotheses) (ending_of general special) → ⊥) → RowHolds general special row → ⊥
  no_row row never held =
      let (inner, same) = inner_row general special row held in
      let from = holds_from bs general special m inner (subst (RowHolds general special) same held) in
      never (row_placed special.hypotheses nothing (ending_of general special) bs (firm general.hypotheses) inner (length-replicate (length special.hypotheses) false) from)
