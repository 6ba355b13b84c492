-- What the features and the fingerprints of conclusions that are kept beside entries tell.
use Rattle.std.proofs.Common.{◌≡◌, ◌∙◌, ℕ, zero, suc, ◌-◌, Bool, true, false, Some, List, [], ◌∷◌, get_or, true≢false, ap, sym, subst, arith}
use Rattle.std.specs.Prelude.{slice_get}
use Rattle.std.specs.List.{list_all}
use Rattle.spec_terms.specs.Term.{Term, Subst}
use Rattle.spec_calculus.specs.Points.{numbered}
use Rattle.spec_trees.proofs.Equality.{and_true}
use Rattle.spec_trees.specs.Tree.{after}
use Rattle.spec_clauses.specs.Fact.{Fact, Clause, fact_under}
use Rattle.spec_clauses.proofs.Facts.{fact_under-fact_under}
use Rattle.spec_fingerprints.specs.Fingerprints.{fingerprint_of}
use Rattle.fact_fingerprint.specs.declared.fingerprints.Fingerprint.{Fingerprint}
use Rattle.fact_fingerprint.specs.Seen.{fingerprint_seen}
use Rattle.spec_clauses.specs.Flat.{is_flat}
use Rattle.spec_clauses.specs.Subsumption.{Subsumes}
use Rattle.spec_features.specs.Features.{features_of}
use Rattle.clause_form.specs.Seen.{clause_at, IdClause}
use Rattle.clause_form.specs.Fit.{IsFit, AreFit}
use Rattle.feature_index.specs.declared.lanes.Features.{Features}
use Rattle.log_entries.specs.declared.log.Entry.{Entry}
use Rattle.log_entries.specs.Beating.{clauses_of}
use Rattle.log_entries.specs.Live.{lanes_of, kept_lanes, HasFeatures, HasConclusion, kept_prints, conclusion_prints, NumberCovers}
use Rattle.log_entries.proofs.Beside.{conclusion_seen, told_there}

-- an entry among fit ones is fit
pub fit_there : (all : List Term) (es : List Entry) (k : ℕ) (x : Entry) → AreFit all (clauses_of es) → slice_get es k ≡ Some x → IsFit all x.clause
fit_there all [] k x fit at = cc
fit_there all (e ∷ es) zero x fit at = let first : e ≡ x = cc in subst (λ (y : Entry). IsFit all y.clause) first fit.0
fit_there all (e ∷ es) (suc k) x fit at = fit_there all es k x fit.1 at

-- so is that of a number
pub fit_numbered : (all : List Term) (es : List Entry) (n : ℕ) (x : Entry) → AreFit all (clauses_of es) → numbered es n ≡ Some x → IsFit all x.clause
fit_numbered all es zero x fit at = cc
fit_numbered all es (suc k) x fit at = fit_there all es k x fit at

-- what is told of features: wherever the general clause subsumes the special one
abbrev pub IsTold : Features → Features → Bool → Type 0
IsTold f g found = (c d : Clause Term) → f.lanes ≡ features_of c → g.lanes ≡ features_of d → list_all is_flat c.hypotheses ≡ true → Subsumes c d → found ≡ true

-- where features tell that a clause doesn't subsume another, it doesn't
pub told_apart : (all : List Term) (general special : IdClause) (f g : Features) (found : Bool) → IsFit all general → HasFeatures all general f → HasFeatures all special g → IsTold f g found → found ≡ false → Subsumes (clause_at all general) (clause_at all special) → ⊥
told_apart all general special f g found fit first second told none h =
    let c = clause_at all general in
    let flats = (and_true (is_flat c.conclusion) (list_all is_flat c.hypotheses) fit.normal.flat).1 in
    true≢false (sym (told c (clause_at all special) first second flats h) ∙ none)

-- nor does the entry of a number, where they are those that stand beside it
pub number_apart : (all : List Term) (es : List Entry) (fs : List Features) (number : ℕ) (clause : IdClause) (f g : Features) (found : Bool) → AreFit all (clauses_of es) → kept_lanes fs ≡ lanes_of all es → f ≡ get_or fs (number - 1) f → HasFeatures all clause g → IsTold f g found → found ≡ false → NumberCovers all es (clause_at all clause) number → ⊥
number_apart all es fs number clause f g found fit same is has told none h = go number is h.at
  where
    go : (n : ℕ) → f ≡ get_or fs (n - 1) f → numbered es n ≡ Some h.entry → ⊥
    go zero is at = cc
    go (suc k) is at =
        let place : suc k - 1 ≡ k = omega arith in
        let stands = told_there features_of (λ (l : Features). l.lanes) all es fs k h.entry f same at (subst (λ j. f ≡ get_or fs j f) place is) in
        told_apart all h.entry.clause clause f g found (fit_there all es k h.entry fit at) stands has told none h.covers.1

-- what is told of fingerprints: of facts with a common instance
abbrev pub IsMetBy : Fingerprint → Fingerprint → Bool → Type 0
IsMetBy f g found = (c d : Fact Term) (s t : Subst) → fingerprint_seen f ≡ fingerprint_of c → fingerprint_seen g ≡ fingerprint_of d → fact_under s c ≡ fact_under t d → found ≡ true

-- where they tell that the conclusions don't meet, the clause doesn't subsume the other
pub conclusions_apart : (all : List Term) (general special : IdClause) (f g : Fingerprint) (found : Bool) → HasConclusion all general f → HasConclusion all special g → IsMetBy f g found → found ≡ false → Subsumes (clause_at all general) (clause_at all special) → ⊥
conclusions_apart all general special f g found first second told none h =
    let c = clause_at all general in
    let d = clause_at all special in
    let one : fact_under (after h.by h.by) c.conclusion ≡ fact_under h.by d.conclusion = sym (fact_under-fact_under h.by h.by c.conclusion) ∙ ap (fact_under h.by) h.conclusion in
    true≢false (sym (told c.conclusion d.conclusion (after h.by h.by) h.by first second one) ∙ none)

-- nor does the entry of a number, where it is the one that stands beside it
pub conclusion_apart : (all : List Term) (es : List Entry) (ps : List Fingerprint) (number : ℕ) (clause : IdClause) (f g : Fingerprint) (found : Bool) → kept_prints ps ≡ conclusion_prints all es → f ≡ get_or ps (number - 1) f → HasConclusion all clause g → IsMetBy f g found → found ≡ false → NumberCovers all es (clause_at all clause) number → ⊥
conclusion_apart all es ps number clause f g found same is has told none h = go number is h.at
  where
    go : (n : ℕ) → f ≡ get_or ps (n - 1) f → numbered es n ≡ Some h.entry → ⊥
    go zero is at = cc
    go (suc k) is at =
        let place : suc k - 1 ≡ k = omega arith in
        let stands = told_there conclusion_seen fingerprint_seen all es ps k h.entry f same at (subst (λ j. f ≡ get_or ps j f) place is) in
        conclusions_apart all h.entry.clause clause f g found stands has told none h.covers.1
