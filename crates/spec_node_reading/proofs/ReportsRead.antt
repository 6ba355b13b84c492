-- Reports whose certificates are of either format: what is read is spelled, and texts are read.
use Rattle.std.proofs.Common.{◌≡◌, ℕ, List, [], length, sym, ◌∙◌, ap, subst, arith}
use Rattle.spec_calculus.specs.Syntax.{Protocol}
use Rattle.spec_certificate_text.specs.OfProtocol.{IsShort, HasNames}
use Rattle.spec_certificate_text.specs.Outcomes.{Found}
use Rattle.spec_certificate_text.specs.Reports.{Claim}
use Rattle.spec_certificate_text.proofs.Parts.{Finds}
use Rattle.spec_certificate_text.specs.ReportText.{SpellsClaimsBy}
use Rattle.spec_certificate_text.proofs.ReportsRead.{ReadIsSpelled, SpelledIsRead, claims_there, claims_found}
use Rattle.spec_node_reading.specs.Readable.{SpellsCertificate}
use Rattle.spec_node_reading.specs.Reading.{read_in_both}
use Rattle.spec_node_reading.specs.Reports.{SpellsReport, read_report_in_both}
use Rattle.spec_node_reading.proofs.NumberedThere.{both_there}
use Rattle.spec_node_reading.proofs.NumberedFound.{both_found}
use Rattle.spec_node_reading.proofs.ReportsOne.{certificate_begins}

both_spelled : (P : Protocol) → ReadIsSpelled (SpellsCertificate P) (read_in_both P)
both_spelled P bytes at place c rest e = both_there P bytes at c place rest e

both_read : (P : Protocol) → HasNames P → SpelledIsRead (SpellsCertificate P) (read_in_both P)
both_read P names = record {
  found = λ bytes c rest at spelled. both_found P names bytes c rest at spelled;
  begins = certificate_begins P;
}

pub report_there : (P : Protocol) (bytes : List ℕ) (claims : List Claim) (place : ℕ) (rest : List ℕ) → read_report_in_both P bytes ≡ Found claims place rest → SpellsReport P bytes claims
report_there P bytes claims place rest e =
    let behind = claims_there (SpellsCertificate P) (read_in_both P) (both_spelled P) (length P.queries) 1 [] bytes 0 claims place rest e in
    record { each = subst (λ cs. SpellsClaimsBy (SpellsCertificate P) 1 cs bytes) (sym behind.is) behind.each; all = ap length behind.is ∙ behind.so_many }

pub report_found : (P : Protocol) → HasNames P → IsShort (length P.queries) → (bytes : List ℕ) (claims : List Claim) → SpellsReport P bytes claims → Finds (read_report_in_both P bytes) claims []
report_found P names short bytes claims is = claims_found (SpellsCertificate P) (read_in_both P) (both_read P names) (length P.queries) 1 [] claims bytes 0 (omega (arith, short)) is.all is.each
