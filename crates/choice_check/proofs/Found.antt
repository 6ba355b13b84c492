-- What is found of claims, one more at a time.
use Rattle.std.proofs.Common.{◌≡◌, ℕ, zero, suc, ◌+◌, ◌<◌, ◌≤◌, List, [], ◌∷◌, ◌++◌, length, map, drop, get_or, slice_get, Option, Some, refl, sym, subst, append_assoc, arith}
use Rattle.std.proofs.lemmas.List.{append-nil, drop_all}
use Rattle.spec_calculus.specs.Syntax.{Query, Protocol}
use Rattle.spec_calculus.specs.Secrecy.{Holds}
use Rattle.spec_calculus.specs.Points.{numbered}
use Rattle.spec_calculus.proofs.Items.{of_some}
use Rattle.cert_checker.specs.declared.ruling.Ruling.TheVariants.{Accepted}
use Rattle.cert_text.specs.Seen.{shared_claim_of}
use Rattle.cert_text.specs.declared.shared_claims.SharedClaim.{SharedClaim}
use Rattle.call_outcomes.specs.declared.outcome.Finding.{Finding}
use Rattle.call_outcomes.specs.declared.outcome.Finding.TheVariants.{Ruled}
use Rattle.choice_check.specs.Checking.{certificates_in, IsFindingOf, AreFindingsOf, HoldWhereAccepted}

-- These are what is found so far: with what is found of the other claims, behind so many certificates, they are what is found of all.
abbrev pub AreFoundSoFar : Protocol → List (List (Option ℕ)) → List SharedClaim → ℕ → ℕ → List Finding → Type 0
AreFoundSoFar P said claims number before found =
    (rest : List Finding) → AreFindingsOf P said before (drop number P.queries) (map shared_claim_of (drop number claims)) rest
    → AreFindingsOf P said 0 P.queries (map shared_claim_of claims) (found ++ rest)

next_found : (P : Protocol) (said : List (List (Option ℕ))) (before i : ℕ) (qs : List Query) (cs : List SharedClaim) (c : SharedClaim) (f : Finding) (rest : List Finding)
    → i < length qs → i < length cs → c ≡ get_or cs i c → ((q : Query) → numbered qs (suc i) ≡ Some q → IsFindingOf P q (shared_claim_of c) (get_or said before []) f)
    → AreFindingsOf P said (before + certificates_in (shared_claim_of c)) (drop (suc i) qs) (map shared_claim_of (drop (suc i) cs)) rest
    → AreFindingsOf P said before (drop i qs) (map shared_claim_of (drop i cs)) (f ∷ rest)
next_found P said before i [] cs c f rest asked made item found behind = absurd (omega arith)
next_found P said before i (q ∷ qs) [] c f rest asked made item found behind = absurd (omega arith)
next_found P said before zero (q ∷ qs) (d ∷ cs) c f rest asked made item found behind =
    subst (λ (x : SharedClaim). IsFindingOf P q (shared_claim_of x) (get_or said before []) f × AreFindingsOf P said (before + certificates_in (shared_claim_of x)) qs (map shared_claim_of cs) rest) item (found q refl, behind)
next_found P said before (suc i) (q ∷ qs) (d ∷ cs) c f rest asked made item found behind =
    next_found P said before i qs cs c f rest (omega arith) (omega arith) item found behind

-- one more claim is looked at
pub one_more : (P : Protocol) (said : List (List (Option ℕ))) (claims : List SharedClaim) (number before after : ℕ) (found all : List Finding) (c : SharedClaim) (f : Finding)
    → length claims ≡ length P.queries → number < length claims → c ≡ get_or claims number c → after ≡ before + certificates_in (shared_claim_of c) → all ≡ found ++ f ∷ []
    → ((q : Query) → numbered P.queries (number + 1) ≡ Some q → IsFindingOf P q (shared_claim_of c) (get_or said before []) f)
    → AreFoundSoFar P said claims number before found → AreFoundSoFar P said claims (number + 1) after all
one_more P said claims number before after found all c f each made item certificates is next so_far = λ rest behind.
    let same : number + 1 ≡ suc number = omega arith in
    let asked : number < length P.queries = omega (arith, each, made) in
    let left = subst (λ (n : ℕ). AreFindingsOf P said after (drop n P.queries) (map shared_claim_of (drop n claims)) rest) same behind in
    let both = so_far (f ∷ rest) (next_found P said before number P.queries claims c f rest asked made item
    (λ q there. next q (subst (λ (n : ℕ). numbered P.queries n ≡ Some q) (sym same) there))
    (subst (λ (n : ℕ). AreFindingsOf P said n (drop (suc number) P.queries) (map shared_claim_of (drop (suc number) claims)) rest) certificates left)) in
    subst (λ (xs : List Finding). AreFindingsOf P said 0 P.queries (map shared_claim_of claims) (xs ++ rest)) (sym is)
    (subst (λ (xs : List Finding). AreFindingsOf P said 0 P.queries (map shared_claim_of claims) xs) (sym (append_assoc found (f ∷ []) rest)) both)

-- all are
pub all_found : (P : Protocol) (said : List (List (Option ℕ))) (claims : List SharedClaim) (number before : ℕ) (found : List Finding)
    → length claims ≡ length P.queries → length claims ≤ number → AreFoundSoFar P said claims number before found
    → AreFindingsOf P said 0 P.queries (map shared_claim_of claims) found
all_found P said claims number before found each past so_far =
    let asked : length P.queries ≤ number = omega (arith, each, past) in
    let none = so_far [] (subst (λ (qs : List Query). AreFindingsOf P said before qs (map shared_claim_of (drop number claims)) []) (sym (drop_all number P.queries asked))
    (subst (λ (cs : List SharedClaim). AreFindingsOf P said before [] (map shared_claim_of cs) []) (sym (drop_all number claims past)) tt)) in
    subst (λ (xs : List Finding). AreFindingsOf P said 0 P.queries (map shared_claim_of claims) xs) (append-nil found) none

hold_next : (P : Protocol) (qs : List Query) (fs : List Finding) (f : Finding) → HoldWhereAccepted qs P fs → (f ≡ Ruled Accepted → (q : Query) → numbered qs (suc (length fs)) ≡ Some q → Holds P q) → HoldWhereAccepted qs P (fs ++ f ∷ [])
hold_next P [] fs f so_far next k e = tt
hold_next P (q ∷ qs) [] f so_far next zero e = next (of_some f (Ruled Accepted) e) q refl
hold_next P (q ∷ qs) [] f so_far next (suc k) e = absurd cc
hold_next P (q ∷ qs) (g ∷ fs) f so_far next zero e = so_far zero e
hold_next P (q ∷ qs) (g ∷ fs) f so_far next (suc k) e = hold_next P qs fs f (λ i. so_far (suc i)) next k e

-- and those queries hold whose certificates are accepted
pub one_more_holds : (P : Protocol) (qs : List Query) (fs all : List Finding) (f : Finding) (number : ℕ) → number ≡ length fs → all ≡ fs ++ f ∷ []
    → (f ≡ Ruled Accepted → (q : Query) → numbered qs (number + 1) ≡ Some q → Holds P q) → HoldWhereAccepted qs P fs → HoldWhereAccepted qs P all
one_more_holds P qs fs all f number count is next so_far =
    let same : number + 1 ≡ suc (length fs) = omega (arith, count) in
    subst (HoldWhereAccepted qs P) (sym is) (hold_next P qs fs f so_far (λ accepted q there. next accepted q (subst (λ (n : ℕ). numbered qs n ≡ Some q) (sym same) there)))
