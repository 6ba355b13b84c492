-- The laws of rows and of subsumption: the general clause concludes the same from no more.
use Rattle.std.proofs.Common.{◌≡◌, List, ◌++◌, map, refl, sym, ap, ◌∙◌, subst}
use Rattle.std.proofs.lemmas.List.Concat.{flat_map-append}
use Rattle.spec_trees.specs.Tree.{after}
use Rattle.spec_terms.specs.Term.{Term, Subst}
use Rattle.spec_clauses.specs.Fact.{Fact, Clause, fact_under, is_variable_known}
use Rattle.spec_clauses.specs.Flat.{flat, flat_under}
use Rattle.spec_clauses.specs.Inclusion.{IsWithin, Has}
use Rattle.spec_clauses.specs.Kept.{AreKeptIn}
use Rattle.spec_clauses.specs.Subsumption.{firm, loose}
use Rattle.spec_clauses.proofs.Facts.{fact_under-fact_under}
use Rattle.spec_clauses.proofs.FlatUnder.{flat_under-flat_under, flat_under-facts_under}
use Rattle.spec_clauses.proofs.Inclusion.{within-trans, within-flat_map}
use Rattle.spec_clauses.proofs.Kept.{kept_met}
use Rattle.spec_clauses.proofs.Firm.{alike-filters}
use Rattle.spec_clauses.proofs.Subsumption.{taken, row_takes}
use Rattle.spec_derivations.specs.Derivation.{Instance}
use Rattle.spec_derivations.specs.Laws.{Follows, RowLaw, SubsumptionLaw}

-- where s makes the conclusions equal and keeps the constraints, and the flat of the general hypotheses under s and then under an
-- instance's substitution are included in its premises
follows : (general special : Clause Term) (s : Subst) (premises : List (Fact Term)) (f : Fact Term) → fact_under s general.conclusion ≡ special.conclusion → AreKeptIn special.diffs s general.diffs → (i : Instance special premises f)
    → IsWithin (flat_under (after i.by s) general.hypotheses) (flat_under i.by special.hypotheses) → Follows general premises f
follows general special s premises f same kept i w = record {
  kept = flat_under (after i.by s) general.hypotheses;
  instance = record {
    by = after i.by s;
    met = kept_met special.diffs general.diffs i.by s i.met kept;
    premises_are = refl;
    concludes = subst (λ (h : Fact Term). Has (flat h) f) (ap (fact_under i.by) (sym same) ∙ fact_under-fact_under i.by s general.conclusion) i.concludes;
  };
  within = subst (λ (hs : List (Fact Term)). IsWithin (flat_under (after i.by s) general.hypotheses) hs) (sym i.premises_are) w;
}

pub subsumption_law : SubsumptionLaw
subsumption_law general special premises f h i =
    follows general special h.by premises f h.conclusion h.diffs i
    (subst (λ (hs : List (Fact Term)). IsWithin hs (flat_under i.by special.hypotheses)) (flat_under-flat_under i.by h.by general.hypotheses)
    (within-flat_map (λ g. flat (fact_under i.by g)) (flat_under h.by general.hypotheses) special.hypotheses h.within))

pub row_law : RowLaw
row_law general special row premises f h i =
    let hs = general.hypotheses in
    let both = after i.by h.by in
    let kinds = alike-filters (λ g. flat (fact_under both g)) is_variable_known hs in
    let firms = flat_under-facts_under i.by h.by (firm hs) in
    let looses = flat_under-flat_under i.by h.by (loose hs) in
    let same : flat_under i.by (taken h.by hs) ≡ flat_under both (firm hs) ++ flat_under both (loose hs) =
    flat_map-append (λ g. flat (fact_under i.by g)) (map (fact_under h.by) (firm hs)) (flat_under h.by (loose hs)) ∙ (λ j. firms j ++ looses j) in
    follows general special h.by premises f h.conclusion h.diffs i
    (within-trans (flat_under both hs) (flat_under both (firm hs) ++ flat_under both (loose hs)) (flat_under i.by special.hypotheses) kinds.to
    (subst (λ (xs : List (Fact Term)). IsWithin xs (flat_under i.by special.hypotheses)) same
    (within-flat_map (λ g. flat (fact_under i.by g)) (taken h.by hs) special.hypotheses (row_takes general special row h))))
