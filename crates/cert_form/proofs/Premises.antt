-- Hypotheses, constraints, and a space behind the last are the premises of a clause as they are written.
use Rattle.std.proofs.Common.{◌≡◌, ℕ, suc, true, false, ◌||◌, List, [], ◌∷◌, map, refl, ap}
use Rattle.spec_calculus.specs.Syntax.{Protocol}
use Rattle.spec_terms.specs.Term.{Term}
use Rattle.spec_clauses.specs.Diff.{Diff}
use Rattle.spec_clauses.specs.Fact.{Fact}
use Rattle.spec_certificate_text.specs.Sides.{spelled_diff}
use Rattle.spec_node_tables.specs.Text.{fact_over, sides_over, later_diffs, diffs_over, later_hypotheses, hypotheses_over}
use Rattle.cert_form.specs.Premises.{space_where, are_any, hypotheses_from, diffs_from, hypotheses_alone, diffs_alone}

module _ (one : Term → List ℕ → List ℕ) (P : Protocol) where
  -- constraints behind hypotheses, and those behind the first where there are no hypotheses
  later_text : (n : ℕ) (ds : List Diff) (rest : List ℕ) → diffs_from one P true n ds (32 ∷ rest) ≡ later_diffs one P (map spelled_diff ds) rest
  later_text n [] rest = refl
  later_text n (d ∷ ds) rest = ap (λ r. 44 ∷ 32 ∷ sides_over one P (spelled_diff d) r) (later_text (suc n) ds rest)

  behind_text : (n : ℕ) (ds : List Diff) (rest : List ℕ) → diffs_from one P false (suc n) ds (32 ∷ rest) ≡ later_diffs one P (map spelled_diff ds) rest
  behind_text n [] rest = refl
  behind_text n (d ∷ ds) rest = ap (λ r. 44 ∷ 32 ∷ sides_over one P (spelled_diff d) r) (behind_text (suc n) ds rest)

  diffs_text : (ds : List Diff) (rest : List ℕ) → diffs_from one P false 0 ds (space_where (are_any ds) rest) ≡ diffs_over one P (map spelled_diff ds) rest
  diffs_text [] rest = refl
  diffs_text (d ∷ ds) rest = ap (λ r. sides_over one P (spelled_diff d) r) (behind_text 0 ds rest)

  later_hypotheses_text : (n : ℕ) (hs : List (Fact Term)) (ds : List Diff) (rest : List ℕ) → hypotheses_from one P (suc n) hs (diffs_from one P true 0 ds (32 ∷ rest)) ≡ later_hypotheses one P hs (map spelled_diff ds) rest
  later_hypotheses_text n [] ds rest = later_text 0 ds rest
  later_hypotheses_text n (h ∷ hs) ds rest = ap (λ r. 44 ∷ 32 ∷ fact_over one P h r) (later_hypotheses_text (suc n) hs ds rest)

  pub premises_text : (hs : List (Fact Term)) (ds : List Diff) (rest : List ℕ) → hypotheses_alone one P hs (diffs_alone one P (are_any hs) ds (space_where (are_any hs || are_any ds) rest)) ≡ hypotheses_over one P hs (map spelled_diff ds) rest
  premises_text [] ds rest = diffs_text ds rest
  premises_text (h ∷ hs) ds rest = ap (λ r. fact_over one P h r) (later_hypotheses_text 0 hs ds rest)
