-- What contracts see of numbers and claims.
use Rattle.std.specs.Prelude.{◌≡◌, ℕ, List, [], map, Result, Ok, Err}
use Rattle.spec_certificate_text.specs.Outcomes.{Outcome, Found}
use Rattle.spec_certificate_text.specs.Reports as reports
use Rattle.fact_reader.specs.declared.error.CertError.{CertError}
use Rattle.fact_reader.specs.Gives.{HasFault}
use Rattle.cert_text.specs.declared.rows.Numbers.{Numbers}
use Rattle.cert_text.specs.declared.claims.Claim.{Claim}
use Rattle.cert_text.specs.declared.claims.Claim.TheVariants.{Proved, Bare, Unknown}
use Rattle.cert_text.specs.declared.shared_claims.SharedClaim.{SharedClaim}
use Rattle.cert_text.specs.declared.shared_claims.SharedClaim.TheVariants as shared

abbrev pub claim_of : Claim → reports.Claim
claim_of (Proved c) = reports.Proved c
claim_of Bare = reports.Bare
claim_of Unknown = reports.Unknown

-- the claim whose certificate is over ids
abbrev pub shared_claim_of : SharedClaim → reports.Claim
shared_claim_of (shared.Proved c) = reports.Proved c
shared_claim_of shared.Bare = reports.Bare
shared_claim_of shared.Unknown = reports.Unknown

abbrev pub numbers_of : Numbers → List ℕ
numbers_of n = n.items.items

-- claims that are seen so were read, of all bytes; or reading has the fault
abbrev pub GivesBy : {C : Type 0} → (C → reports.Claim) → Result (List C) CertError → Outcome (List reports.Claim) → Type 0
GivesBy view (Ok claims) o = (place : ℕ) × (o ≡ Found (map view claims) place [])
GivesBy view (Err e) o = HasFault e o

-- claims over trees, and over ids
abbrev pub GivesClaims : Result (List Claim) CertError → Outcome (List reports.Claim) → Type 0
GivesClaims result o = GivesBy claim_of result o

abbrev pub GivesShared : Result (List SharedClaim) CertError → Outcome (List reports.Claim) → Type 0
GivesShared result o = GivesBy shared_claim_of result o
