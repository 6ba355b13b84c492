-- What is found of claims, one more at a time.
use Rattle.std.proofs.Common.{◌≡◌, ℕ, zero, suc, ◌+◌, ◌<◌, ◌≤◌, Some, List, [], ◌∷◌, ◌++◌, length, map, take, get_or, refl, sym, subst, arith}
use Rattle.std.proofs.lemmas.List.{take_all}
use Rattle.spec_calculus.specs.Syntax.{Query, Protocol}
use Rattle.spec_calculus.specs.Points.{numbered}
use Rattle.cert_text.specs.Seen.{shared_claim_of}
use Rattle.cert_text.specs.declared.shared_claims.SharedClaim.{SharedClaim}
use Rattle.call_outcomes.specs.declared.outcome.Finding.{Finding}
use Rattle.verifier_cli.specs.Checking.{IsFindingOf, AreFindingsOf}

next_found : (P : Protocol) (qs : List Query) (cs : List SharedClaim) (i : ℕ) (fs : List Finding) (c : SharedClaim) (f : Finding) → i < length qs → i < length cs → c ≡ get_or cs i c
    → AreFindingsOf P (take i qs) (map shared_claim_of (take i cs)) fs → ((q : Query) → numbered qs (suc i) ≡ Some q → IsFindingOf P q (shared_claim_of c) f)
    → AreFindingsOf P (take (suc i) qs) (map shared_claim_of (take (suc i) cs)) (fs ++ f ∷ [])
next_found P [] cs i fs c f asked made item so_far next = absurd (omega arith)
next_found P (q ∷ qs) [] i fs c f asked made item so_far next = absurd (omega arith)
next_found P (q ∷ qs) (d ∷ cs) zero [] c f asked made item so_far next = (subst (λ (x : SharedClaim). IsFindingOf P q (shared_claim_of x) f) item (next q refl), tt)
next_found P (q ∷ qs) (d ∷ cs) zero (g ∷ fs) c f asked made item so_far next = absurd so_far
next_found P (q ∷ qs) (d ∷ cs) (suc i) [] c f asked made item so_far next = absurd so_far
next_found P (q ∷ qs) (d ∷ cs) (suc i) (g ∷ fs) c f asked made item so_far next =
    (so_far.0, next_found P qs cs i fs c f (omega arith) (omega arith) item so_far.1 next)

-- one more claim is looked at
pub one_more : (P : Protocol) (qs : List Query) (cs : List SharedClaim) (i : ℕ) (fs all : List Finding) (c : SharedClaim) (f : Finding) → length cs ≡ length qs → i < length cs → c ≡ get_or cs i c → all ≡ fs ++ f ∷ []
    → AreFindingsOf P (take i qs) (map shared_claim_of (take i cs)) fs → ((q : Query) → numbered qs (i + 1) ≡ Some q → IsFindingOf P q (shared_claim_of c) f)
    → AreFindingsOf P (take (i + 1) qs) (map shared_claim_of (take (i + 1) cs)) all
one_more P qs cs i fs all c f each made item is so_far next =
    let number : suc i ≡ i + 1 = omega arith in
    let asked : i < length qs = omega (arith, each, made) in
    subst (AreFindingsOf P (take (i + 1) qs) (map shared_claim_of (take (i + 1) cs))) (sym is)
    (subst (λ n. AreFindingsOf P (take n qs) (map shared_claim_of (take n cs)) (fs ++ f ∷ [])) number
    (next_found P qs cs i fs c f asked made item so_far (λ q there. next q (subst (λ n. numbered qs n ≡ Some q) number there))))

-- all are
pub all_found : (P : Protocol) (qs : List Query) (cs : List SharedClaim) (i : ℕ) (fs : List Finding) → length cs ≡ length qs → length cs ≤ i
    → AreFindingsOf P (take i qs) (map shared_claim_of (take i cs)) fs → AreFindingsOf P qs (map shared_claim_of cs) fs
all_found P qs cs i fs each past so_far =
    let asked : length qs ≤ i = omega (arith, each, past) in
    subst (λ xs. AreFindingsOf P xs (map shared_claim_of cs) fs) (take_all i qs asked)
    (subst (λ ys. AreFindingsOf P (take i qs) (map shared_claim_of ys) fs) (take_all i cs past) so_far)
