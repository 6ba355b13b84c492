-- How contracts store claims: what the models of lists of them take.
use Rattle.std.specs.Prelude.{◌≡◌, ◌⊎◌, Bool, true, false, List, refl}
use Rattle.std.proofs.Common.{inl, inr}
use Rattle.std.specs.Coded.{Coded, code_by, coded⊎, coded_bool, coded_list}
use Rattle.spec_certificates.specs.Certificate.{Certificate}
use Rattle.cert_form.specs.Codes.{coded_certificate}
use Rattle.cert_text.specs.declared.claims.Claim.{Claim}
use Rattle.cert_text.specs.declared.claims.Claim.TheVariants.{Proved, Bare, Unknown}
use Rattle.cert_text.specs.declared.shared_claims.SharedClaim.{SharedClaim}
use Rattle.cert_text.specs.declared.shared_claims.SharedClaim.TheVariants as shared

-- a claim as its parts: a certificate, or one of two words
abbrev claim_parts : Claim → Certificate ⊎ Bool
claim_parts (Proved certificate) = inl certificate
claim_parts Bare = inr true
claim_parts Unknown = inr false

abbrev parts_claim : Certificate ⊎ Bool → Claim
parts_claim (inl certificate) = Proved certificate
parts_claim (inr true) = Bare
parts_claim (inr false) = Unknown

pub parts_claim-claim_parts : (c : Claim) → parts_claim (claim_parts c) ≡ c
parts_claim-claim_parts (Proved certificate) = refl
parts_claim-claim_parts Bare = refl
parts_claim-claim_parts Unknown = refl

abbrev pub coded_claims : Coded (List Claim)
coded_claims = coded_list (code_by (Certificate ⊎ Bool) (coded⊎ coded_certificate coded_bool) claim_parts parts_claim parts_claim-claim_parts)

-- the same of claims whose certificates are over ids
abbrev shared_claim_parts : SharedClaim → Certificate ⊎ Bool
shared_claim_parts (shared.Proved certificate) = inl certificate
shared_claim_parts shared.Bare = inr true
shared_claim_parts shared.Unknown = inr false

abbrev parts_shared_claim : Certificate ⊎ Bool → SharedClaim
parts_shared_claim (inl certificate) = shared.Proved certificate
parts_shared_claim (inr true) = shared.Bare
parts_shared_claim (inr false) = shared.Unknown

pub parts_shared_claim-shared_claim_parts : (c : SharedClaim) → parts_shared_claim (shared_claim_parts c) ≡ c
parts_shared_claim-shared_claim_parts (shared.Proved certificate) = refl
parts_shared_claim-shared_claim_parts shared.Bare = refl
parts_shared_claim-shared_claim_parts shared.Unknown = refl

abbrev pub coded_shared_claims : Coded (List SharedClaim)
coded_shared_claims = coded_list (code_by (Certificate ⊎ Bool) (coded⊎ coded_certificate coded_bool) shared_claim_parts parts_shared_claim parts_shared_claim-shared_claim_parts)
