-- What is read with a state that is kept is read without it.
use Rattle.std.proofs.Common.{◌≡◌, ◌∙◌, ℕ, List, [], ◌∷◌, map, refl, ap, sym, subst}
use Rattle.std.specs.List.{AllByRecursion}
use Rattle.std.specs.Prelude.{Result, Ok, Err}
use Rattle.spec_calculus.specs.Syntax.{Protocol}
use Rattle.spec_terms.specs.Term.{Term}
use Rattle.spec_clauses.specs.Diff.{Diff}
use Rattle.spec_clauses.specs.Fact.{Fact, Clause}
use Rattle.spec_certificate_text.specs.Sides.{SidesOf, spelled_diff, meant_diff}
use Rattle.spec_certificate_text.specs.Outcomes.{Outcome, Found, Faulty, next}
use Rattle.spec_certificate_text.specs.Clauses.{read_clause}
use Rattle.spec_certificate_text.specs.Walks as walks
use Rattle.spec_certificate_text.specs.Walks.{spelled_term, spelled_side, no_counts, with_state}
use Rattle.spec_certificate_text.proofs.Sides.{diff_spelled}
use Rattle.spec_certificate_text.proofs.KeptStates.{same_found, clause_alike}
use Rattle.fact_reader.specs.declared.error.CertError.{CertError}
use Rattle.fact_reader.specs.Gives.{HasFault}
use Rattle.fact_reader.specs.Reads.{Finds}
use Rattle.fact_reader.proofs.Things.{next_fault}

-- what is read is read with the state too
pub finds_with : {T A : Type 0} (view : T → A) (result : Result T CertError) (place : ℕ) (rest : List ℕ) (o : Outcome A) → Finds view result place rest o → Finds (λ (t : T). (view t, tt {0})) result place rest (with_state (tt {0}) o)
finds_with {T} {A} view (Ok x) place rest o found = ap (λ (p : Outcome A). with_state (tt {0}) p) found
finds_with {T} {A} view (Err e) place rest o fault = next_fault {B = A × Unit {0}} e o (λ x p r. Found (x, tt {0}) p r) fault

-- and without it
abbrev without : {A : Type 0} → A × Unit {0} → ℕ → List ℕ → Outcome A
without x place rest = Found x.0 place rest

back : {A : Type 0} (o : Outcome A) → next (with_state (tt {0}) o) without ≡ o
back (Found x place rest) = refl
back (Faulty place code) = refl

found_without : {A : Type 0} (o : Outcome A) (x : A) (place : ℕ) (rest : List ℕ) → with_state (tt {0}) o ≡ Found (x, tt {0}) place rest → o ≡ Found x place rest
found_without {A} o x place rest e = sym (back o) ∙ ap (λ (p : Outcome (A × Unit {0})). next p without) e

fault_without : {A : Type 0} (e : CertError) (o : Outcome A) → HasFault e (with_state (tt {0}) o) → HasFault e o
fault_without {A} e o fault = subst (λ (p : Outcome A). HasFault e p) (back o) (next_fault {B = A} e (with_state (tt {0}) o) without fault)

clause_on_walk : (P : Protocol) (bytes : List ℕ) (at : ℕ) → walks.read_clause (spelled_term P) (spelled_side P) no_counts P (tt {0}) bytes at ≡ with_state (tt {0}) (read_clause P bytes at)
clause_on_walk P bytes at = same_found (tt {0}) (read_clause P bytes at) (walks.read_clause (spelled_term P) (spelled_side P) no_counts P (tt {0}) bytes at) (clause_alike (tt {0}) P bytes at)

-- a constraint of sides that were read is what its own sides mean
abbrev sides_of : List Term → List Term → SidesOf Term
sides_of left right = record { left = left; right = right }

pub sides_back : (left right : List Term) → spelled_diff (meant_diff (sides_of left right)) ≡ sides_of left right
sides_back left right = diff_spelled (sides_of left right)

pub diff_back : (left right : List Term) → meant_diff (spelled_diff (meant_diff (sides_of left right))) ≡ meant_diff (sides_of left right)
diff_back left right = ap meant_diff (sides_back left right)

pub ruleset sides = (sides_back, diff_back)

diffs_back : (ds : List Diff) → AllByRecursion (λ d. meant_diff (spelled_diff d) ≡ d) ds → map meant_diff (map spelled_diff ds) ≡ ds
diffs_back [] back = refl
diffs_back (d ∷ ds) back = let one = back.0 in let later = diffs_back ds back.1 in λ i. one i ∷ later i

abbrev clause_with : List (Fact Term) → List Diff → Fact Term → Clause Term
clause_with hs ds h = record { hypotheses = hs; diffs = ds; conclusion = h }

pub clause_found : (P : Protocol) (bytes : List ℕ) (at : ℕ) (hs : List (Fact Term)) (ds : List Diff) (h : Fact Term) (place : ℕ) (rest : List ℕ) → AllByRecursion (λ d. meant_diff (spelled_diff d) ≡ d) ds
    → walks.read_clause (spelled_term P) (spelled_side P) no_counts P (tt {0}) bytes at ≡ Found (clause_with hs (map meant_diff (map spelled_diff ds)) h, tt {0}) place rest
    → read_clause P bytes at ≡ Found (clause_with hs ds h) place rest
clause_found P bytes at hs ds h place rest back e =
    found_without (read_clause P bytes at) (clause_with hs (map meant_diff (map spelled_diff ds)) h) place rest (sym (clause_on_walk P bytes at) ∙ e)
    ∙ ap (λ (es : List Diff). Found (clause_with hs es h) place rest) (diffs_back ds back)

pub clause_fault : (P : Protocol) (bytes : List ℕ) (at : ℕ) (e : CertError) → HasFault e (walks.read_clause (spelled_term P) (spelled_side P) no_counts P (tt {0}) bytes at) → HasFault e (read_clause P bytes at)
clause_fault P bytes at e fault = fault_without e (read_clause P bytes at) (subst (λ (o : Outcome (Clause Term × Unit {0})). HasFault e o) (clause_on_walk P bytes at) fault)
