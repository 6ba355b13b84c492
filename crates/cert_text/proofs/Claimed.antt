-- Claims, of which some are read already.
use Rattle.std.proofs.Common.{◌≡◌, ◌≢◌, ℕ, suc, ◌+◌, ◌-◌, ◌<◌, ◌≤◌, List, [], ◌∷◌, ◌++◌, refl, sym, ap, subst, ◌∙◌, arith, Result, map, codes}
use Rattle.std.proofs.lemmas.List.{map-append}
use Rattle.spec_certificates.specs.Certificate.{Certificate}
use Rattle.spec_certificate_text.specs.Terms as terms
use Rattle.spec_certificate_text.specs.Outcomes.{Outcome, Found, Faulty, next, read_fixed, read_number, Reader}
use Rattle.spec_certificate_text.specs.Reports.{Claim, claim_by, behind_claims, claims_by}
use Rattle.fact_reader.specs.declared.error.CertError.{CertError}
use Rattle.fact_reader.specs.Gives.{HasFault}
use Rattle.cert_text.specs.Seen.{GivesShared}
use Rattle.cert_text.specs.declared.shared_claims.SharedClaim.{SharedClaim}
use Rattle.fact_reader.proofs.Things.{next_fault}

-- these claims are read, and reading of so many more, from that of the query of this number on, goes on with the rest
pub record AreClaimed (reader : Reader Certificate) (whole : Outcome (List Claim)) (left number : ℕ) (rest : List ℕ) (place : ℕ) (claims : List Claim) : Type 0 where
  pub read : claims_by reader left number claims rest place ≡ whole

abbrev behind_claim : Reader Certificate → ℕ → ℕ → List Claim → Claim → ℕ → List ℕ → Outcome (List Claim)
behind_claim reader left number claims c p r = claims_by reader left (number + 1) (claims ++ c ∷ []) r p

all_claimed : (reader : Reader Certificate) (number : ℕ) (claims : List Claim) (bytes : List ℕ) (at : ℕ) → claims_by reader 0 number claims bytes at ≡ behind_claims claims at bytes
unfolding claims_by
all_claimed reader number claims bytes at = refl

cut_off : (reader : Reader Certificate) (left number : ℕ) (claims : List Claim) (at : ℕ) → claims_by reader (suc left) number claims [] at ≡ Faulty at terms.Count
unfolding claims_by
cut_off reader left number claims at = refl

one_claim : (reader : Reader Certificate) (left number : ℕ) (claims : List Claim) (bytes : List ℕ) (at : ℕ) → bytes ≢ [] → claims_by reader (suc left) number claims bytes at ≡ next (claim_by reader number bytes at) (behind_claim reader left number claims)
unfolding claims_by
one_claim reader left number claims [] at some = absurd (some refl)
one_claim reader left number claims (b ∷ bytes) at some = refl

-- something stands behind the claims
pub more_claims : (bytes : List ℕ) (at : ℕ) (claims : List Claim) → bytes ≢ []
    → behind_claims claims at bytes ≡ next (read_fixed (codes "query ") bytes at) (λ _ from r. next (read_number r from) (λ n p r. Faulty from terms.Count))
more_claims [] at claims some = absurd (some refl)
more_claims (b ∷ bytes) at claims some = refl

pub claims_start : (reader : Reader Certificate) (most : ℕ) (rest : List ℕ) (place : ℕ) (claims : List Claim) → claims ≡ [] → AreClaimed reader (claims_by reader most 1 [] rest place) (most - 0) 1 rest place claims
claims_start reader most rest place claims none =
    let all : most - 0 ≡ most = omega arith in
    subst (λ (cs : List Claim). AreClaimed reader (claims_by reader most 1 [] rest place) (most - 0) 1 rest place cs) (sym none)
    record { read = ap (λ n. claims_by reader n 1 [] rest place) all }

claim_there : (reader : Reader Certificate) (whole : Outcome (List Claim)) (most query number : ℕ) (rest : List ℕ) (place : ℕ) (claims : List Claim) → AreClaimed reader whole (most - query) number rest place claims → query < most → rest ≢ []
    → whole ≡ next (claim_by reader number rest place) (behind_claim reader (most - (query + 1)) number claims)
claim_there reader whole most query number rest place claims going more some =
    let left : most - query ≡ suc (most - (query + 1)) = omega arith in
    sym going.read ∙ (ap (λ n. claims_by reader n number claims rest place) left ∙ one_claim reader (most - (query + 1)) number claims rest place some)

pub claims_on : (reader : Reader Certificate) (whole : Outcome (List Claim)) (most query number : ℕ) (rest : List ℕ) (place : ℕ) (claims : List Claim) (behind : List ℕ) (at : ℕ) (others : List Claim) (c : Claim)
    → others ≡ claims ++ c ∷ [] → AreClaimed reader whole (most - query) number rest place claims → query < most → rest ≢ [] → claim_by reader number rest place ≡ Found c at behind
    → AreClaimed reader whole (most - (query + 1)) (number + 1) behind at others
claims_on reader whole most query number rest place claims behind at others c is going more some found =
    subst (λ (cs : List Claim). AreClaimed reader whole (most - (query + 1)) (number + 1) behind at cs) (sym is)
    record { read = sym (claim_there reader whole most query number rest place claims going more some ∙ ap (λ o. next o (behind_claim reader (most - (query + 1)) number claims)) found) }

-- the same of claims that are seen as others
pub viewed_on : {T : Type 0} (f : T → Claim) (reader : Reader Certificate) (whole : Outcome (List Claim)) (most query number : ℕ) (rest : List ℕ) (place : ℕ) (ts : List T) (behind : List ℕ) (at : ℕ) (us : List T) (t : T)
    → us ≡ ts ++ t ∷ [] → AreClaimed reader whole (most - query) number rest place (map f ts) → query < most → rest ≢ [] → claim_by reader number rest place ≡ Found (f t) at behind
    → AreClaimed reader whole (most - (query + 1)) (number + 1) behind at (map f us)
viewed_on f reader whole most query number rest place ts behind at us t is going more some found =
    claims_on reader whole most query number rest place (map f ts) behind at (map f us) (f t) (ap (map f) is ∙ map-append f ts (t ∷ [])) going more some found

pub claims_fault : (reader : Reader Certificate) (whole : Outcome (List Claim)) (most query number : ℕ) (rest : List ℕ) (place : ℕ) (claims : List Claim) (e : CertError) → AreClaimed reader whole (most - query) number rest place claims → query < most → rest ≢ []
    → HasFault e (claim_by reader number rest place) → HasFault e whole
claims_fault reader whole most query number rest place claims e going more some fault =
    subst (λ (o : Outcome (List Claim)). HasFault e o) (sym (claim_there reader whole most query number rest place claims going more some))
    (next_fault {B = List Claim} e (claim_by reader number rest place) (behind_claim reader (most - (query + 1)) number claims) fault)

pub claims_cut : (reader : Reader Certificate) (whole : Outcome (List Claim)) (most query number : ℕ) (rest : List ℕ) (place : ℕ) (claims : List Claim) → AreClaimed reader whole (most - query) number rest place claims → query < most → rest ≡ []
    → whole ≡ Faulty place terms.Count
claims_cut reader whole most query number rest place claims going more none =
    let left : most - query ≡ suc (most - (query + 1)) = omega arith in
    sym going.read ∙ (ap (λ n. claims_by reader n number claims rest place) left
    ∙ (ap (λ bs. claims_by reader (suc (most - (query + 1))) number claims bs place) none ∙ cut_off reader (most - (query + 1)) number claims place))

pub claims_all : (reader : Reader Certificate) (whole : Outcome (List Claim)) (most query number : ℕ) (rest : List ℕ) (place : ℕ) (claims : List Claim) → AreClaimed reader whole (most - query) number rest place claims → most ≤ query
    → whole ≡ behind_claims claims place rest
claims_all reader whole most query number rest place claims going past =
    let left : most - query ≡ 0 = omega arith in
    sym going.read ∙ (ap (λ n. claims_by reader n number claims rest place) left ∙ all_claimed reader number claims rest place)

-- all claims are read, and nothing stands behind them
pub claims_done : (reader : Reader Certificate) (whole : Outcome (List Claim)) (most query number : ℕ) (rest : List ℕ) (place : ℕ) (claims : List Claim) → AreClaimed reader whole (most - query) number rest place claims → most ≤ query → rest ≡ []
    → (p : ℕ) × (whole ≡ Found claims p [])
claims_done reader whole most query number rest place claims going past none =
    (place, claims_all reader whole most query number rest place claims going past ∙ ap (λ bs. behind_claims claims place bs) none)

-- all claims are read, and something stands behind them
pub claims_further : (reader : Reader Certificate) (whole : Outcome (List Claim)) (most query number : ℕ) (rest : List ℕ) (place : ℕ) (claims : List Claim) (r : Result (List SharedClaim) CertError) → AreClaimed reader whole (most - query) number rest place claims → most ≤ query → rest ≢ []
    → ((claims : List Claim) → rest ≢ [] → GivesShared r (behind_claims claims place rest)) → GivesShared r whole
claims_further reader whole most query number rest place claims r going past some gives =
    subst (λ (o : Outcome (List Claim)). GivesShared r o) (sym (claims_all reader whole most query number rest place claims going past)) (gives claims some)

pub ruleset claims = (claims_start, claims_cut, claims_done)
