-- The texts of reports whose certificates are of either format, reading them, and their kind.
use Rattle.std.specs.Prelude.{◌≡◌, ℕ, List, [], length}
use Rattle.spec_calculus.specs.Syntax.{Protocol}
use Rattle.spec_certificate_text.specs.Outcomes.{Outcome}
use Rattle.spec_certificate_text.specs.Reports.{Claim, claims_by}
use Rattle.spec_certificate_text.specs.ReportText.{SpellsClaimBy, SpellsClaimsBy}
use Rattle.spec_certificate_faults.specs.First.{Kind}
use Rattle.spec_first_faults.specs.Reports.{claims_with}
use Rattle.spec_node_reading.specs.Clauses.{certificates_of_both}
use Rattle.spec_node_reading.specs.Readable.{SpellsCertificate}
use Rattle.spec_node_reading.specs.Reading.{read_in_both}

-- the bytes begin with this claim of the query of that number, and the rest stands behind it
abbrev pub SpellsClaim : Protocol → ℕ → Claim → List ℕ → List ℕ → Type 0
SpellsClaim P number claim rest bytes = SpellsClaimBy (SpellsCertificate P) number claim rest bytes

-- the bytes are these claims, the first of which is of the query of that number
abbrev pub SpellsClaims : Protocol → ℕ → List Claim → List ℕ → Type 0
SpellsClaims P number claims bytes = SpellsClaimsBy (SpellsCertificate P) number claims bytes

-- the bytes are a report that claims this of the queries of the protocol, of each of them
pub record SpellsReport (P : Protocol) (bytes : List ℕ) (claims : List Claim) : Type 0 where
  pub each : SpellsClaims P 1 claims bytes
  pub all : length claims ≡ length P.queries

-- the claims of a report, one for each query of the protocol
abbrev pub read_report_in_both : Protocol → List ℕ → Outcome (List Claim)
read_report_in_both P bytes = claims_by (read_in_both P) (length P.queries) 1 [] bytes 0

-- a report: a claim about each query of the protocol, in order
abbrev pub reports_of_both : Protocol → Kind
reports_of_both P = claims_with (certificates_of_both P) (length P.queries) 1
