-- Subsumption: reflexive, transitive, and the same as some row that holds.
use Rattle.std.proofs.Common.{◌≡◌, ℕ, ◌<◌, ◌⊎◌, true, List, [], ◌∷◌, ◌++◌, map, length, refl, sym, ap, ◌∙◌, subst, inl, inr, arith}
use Rattle.std.specs.Prelude.{Some}
use Rattle.std.specs.List.{list_all}
use Rattle.std.proofs.lemmas.List.{length-map}
use Rattle.std.proofs.lemmas.Simd.{map-map}
use Rattle.std.proofs.lemmas.Bool.{cases_order}
use Rattle.spec_trees.specs.Tree.{Leaf, after}
use Rattle.spec_trees.proofs.Equality.{and_true}
use Rattle.spec_terms.specs.Term.{Term, Subst}
use Rattle.spec_clauses.specs.Fact.{Fact, Clause, fact_under, is_variable_known}
use Rattle.spec_clauses.specs.Flat.{flat, flat_under, is_flat}
use Rattle.spec_clauses.specs.Norm.{IsNormal}
use Rattle.spec_clauses.specs.Inclusion.{IsWithin, Has}
use Rattle.spec_clauses.specs.Subsumption.{Subsumes, IsCovered, firm, loose, hypothesis_at, RowHolds, ComesBefore, IsFirstRow}
use Rattle.spec_clauses.proofs.Facts.{fact_under-fact_under, fact_under-Leaf}
use Rattle.spec_clauses.proofs.FlatUnder.{flat_under-Leaf, flat_under-flat_under}
use Rattle.spec_clauses.proofs.Inclusion.{within_self, within-trans, within-flat_map}
use Rattle.spec_clauses.proofs.Firm.{alike-filters, firms_stay, flats_are_own}
use Rattle.spec_clauses.proofs.Rows.{takes_within, within_takes}
use Rattle.spec_clauses.proofs.Kept.{kept_itself, kept_through}
use Rattle.spec_clauses.proofs.NormKeeps.{normal-numbered}

-- A clause that is flat and its own norm subsumes itself.
pub subsumes_itself : (c : Clause Term) → IsNormal c → Subsumes c c
subsumes_itself c normal =
    let flats = (and_true (is_flat c.conclusion) (list_all is_flat c.hypotheses) normal.flat).1 in
    record {
      by = Leaf;
      conclusion = fact_under-Leaf c.conclusion;
      within = rw (flat_under-Leaf c.hypotheses ∙ flats_are_own c.hypotheses flats) (within_self c.hypotheses);
      diffs = kept_itself c.diffs (normal-numbered c normal.own);
    }

pub subsumption-trans : (a b c : Clause Term) → Subsumes a b → Subsumes b c → Subsumes a c
subsumption-trans a b c first second = record {
  by = after second.by first.by;
  conclusion = sym (fact_under-fact_under second.by first.by a.conclusion) ∙ (ap (fact_under second.by) first.conclusion ∙ second.conclusion);
  within = rw (← flat_under-flat_under second.by first.by a.hypotheses) (within-trans (flat_under second.by (flat_under first.by a.hypotheses)) (flat_under second.by b.hypotheses) c.hypotheses
      (within-flat_map (λ f. flat (fact_under second.by f)) (flat_under first.by a.hypotheses) b.hypotheses first.within) second.within);
  diffs = kept_through a.diffs b.diffs c.diffs first.by second.by first.diffs second.diffs;
}

-- What a row that holds takes: the firm hypotheses as they are, and the flat of the loose ones.
abbrev pub taken : Subst → List (Fact Term) → List (Fact Term)
taken s hs = map (fact_under s) (firm hs) ++ flat_under s (loose hs)

pub row_takes : (general special : Clause Term) (row : List ℕ) → (h : RowHolds general special row) → IsWithin (taken h.by general.hypotheses) special.hypotheses
row_takes general special row h = takes_within special.hypotheses (map (fact_under h.by) (firm general.hypotheses)) (flat_under h.by (loose general.hypotheses)) row (record {
  distinct = h.distinct;
  firmly = map-map Some (fact_under h.by) (firm general.hypotheses) ∙ h.firmly;
  loosely = h.loosely;
})

pub row_subsumes : (general special : Clause Term) (row : List ℕ) → list_all is_flat general.hypotheses ≡ true → RowHolds general special row → Subsumes general special
row_subsumes general special row flats h =
    let hs = general.hypotheses in
    let kinds = alike-filters (λ f. flat (fact_under h.by f)) is_variable_known hs in
    record {
      by = h.by;
      conclusion = h.conclusion;
      within = within-trans (flat_under h.by hs) (taken h.by hs) special.hypotheses (subst (λ (xs : List (Fact Term)). IsWithin (flat_under h.by hs) (xs ++ flat_under h.by (loose hs))) (firms_stay h.by hs flats) kinds.to) (row_takes general special row h);
      diffs = h.diffs;
    }

pub subsumes_by_row : (general special : Clause Term) → list_all is_flat general.hypotheses ≡ true → Subsumes general special → (row : List ℕ) × RowHolds general special row
subsumes_by_row general special flats h =
    let hs = general.hypotheses in
    let kinds = alike-filters (λ f. flat (fact_under h.by f)) is_variable_known hs in
    let within = within-trans (taken h.by hs) (flat_under h.by hs) special.hypotheses (subst (λ (xs : List (Fact Term)). IsWithin (xs ++ flat_under h.by (loose hs)) (flat_under h.by hs)) (firms_stay h.by hs flats) kinds.from) h.within in
    let (row, t) = within_takes special.hypotheses (map (fact_under h.by) (firm hs)) (flat_under h.by (loose hs)) within in (
      row,
      record {
        by = h.by;
        distinct = t.distinct;
        conclusion = h.conclusion;
        firmly = sym (map-map Some (fact_under h.by) (firm hs)) ∙ t.firmly;
        loosely = t.loosely;
        diffs = h.diffs;
      },
    )

-- a row that holds has a position for each firm hypothesis
pub row_length : (general special : Clause Term) (row : List ℕ) → RowHolds general special row → length row ≡ length (firm general.hypotheses)
row_length general special row h =
    sym (length-map row (hypothesis_at special.hypotheses)) ∙ (sym (ap length h.firmly) ∙ length-map (firm general.hypotheses) (λ f. Some (fact_under h.by f)))

-- of two rows of one length one comes first, or they are the same
abbrev pub Order : List ℕ → List ℕ → Type 0
Order ps qs = (ps ≡ qs) ⊎ (ComesBefore ps qs ⊎ ComesBefore qs ps)

pub order : (ps qs : List ℕ) → length ps ≡ length qs → Order ps qs
order [] [] e = inl refl
order [] (q ∷ qs) e = absurd (omega arith)
order (p ∷ ps) [] e = absurd (omega arith)
order (p ∷ ps) (q ∷ qs) e = go (cases_order p q) (order ps qs (omega arith)) where
  go : (p ≡ q) ⊎ ((p < q) ⊎ (q < p)) → Order ps qs → Order (p ∷ ps) (q ∷ qs)
  go (inr (inl less)) others = inr (inl (inl less))
  go (inr (inr more)) others = inr (inr (inl more))
  go (inl same) (inl rest) = inl (λ i. same i ∷ rest i)
  go (inl same) (inr (inl before)) = inr (inl (inr (same, before)))
  go (inl same) (inr (inr after)) = inr (inr (inr (sym same, after)))

pub one_first_row : (general special : Clause Term) (row other : List ℕ) → IsFirstRow general special row → IsFirstRow general special other → row ≡ other
one_first_row general special row other a b = elim (order row other (row_length general special row a.holds ∙ sym (row_length general special other b.holds))) as (λ _. row ≡ other) [
  | inl same ↦ same
  | inr (inl before) ↦ absurd (b.first row a.holds before)
  | inr (inr after) ↦ absurd (a.first other b.holds after)
]

-- What covers a clause covers what that subsumes, and so does a list that has more, or covers all of it.
pub covered_more : (clauses : List (Clause Term)) (c d : Clause Term) → IsCovered clauses c → Subsumes c d → IsCovered clauses d
covered_more clauses c d k s = (k.0, k.1, subsumption-trans k.0 c d k.2 s)

pub covered_by : (clauses others : List (Clause Term)) (c : Clause Term) → IsCovered clauses c → ((d : Clause Term) → Has clauses d → IsCovered others d) → IsCovered others c
covered_by clauses others c k all = covered_more others k.0 c (all k.0 k.1) k.2

pub covered_grown : (clauses others : List (Clause Term)) (c : Clause Term) → ((d : Clause Term) → Has clauses d → Has others d) → IsCovered clauses c → IsCovered others c
covered_grown clauses others c all k = (k.0, all k.0 k.1, k.2)
