-- What comes of texts that spell something.
use Rattle.std.specs.Prelude.{◌≡◌, ℕ, List, drop, map, Result, Ok, Err}
use Rattle.spec_certificates.specs.Certificate.{Certificate}
use Rattle.spec_certificate_text.specs.Reports as reports
use Rattle.fact_reader.specs.declared.error.CertError.{CertError}
use Rattle.fact_reader.specs.declared.error.CertError.TheVariants.{Memory}
use Rattle.cert_text.specs.Seen.{claim_of, shared_claim_of}
use Rattle.cert_text.specs.declared.claims.Claim.{Claim}
use Rattle.cert_text.specs.declared.shared_claims.SharedClaim.{SharedClaim}

abbrev pub IsMemory : CertError → Type 0
IsMemory (Memory e) = Unit {0}
IsMemory _ = ⊥

-- this certificate was read of the bytes, up to the place behind which the rest stands, unless memory ran out
abbrev pub GivesCertificate : List ℕ → Certificate → List ℕ → Result (Certificate × ℕ) CertError → Type 0
GivesCertificate bytes certificate rest (Ok x) = (x.0 ≡ certificate) × (drop x.1 bytes ≡ rest)
GivesCertificate bytes certificate rest (Err e) = IsMemory e

-- claims that are seen as these were read, unless memory ran out
abbrev pub GivesReportBy : {C : Type 0} → (C → reports.Claim) → List reports.Claim → Result (List C) CertError → Type 0
GivesReportBy view claims (Ok found) = map view found ≡ claims
GivesReportBy view claims (Err e) = IsMemory e

-- claims over trees, and over ids
abbrev pub GivesReport : List reports.Claim → Result (List Claim) CertError → Type 0
GivesReport claims result = GivesReportBy claim_of claims result

abbrev pub GivesSharedReport : List reports.Claim → Result (List SharedClaim) CertError → Type 0
GivesSharedReport claims result = GivesReportBy shared_claim_of claims result
