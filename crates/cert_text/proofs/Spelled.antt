-- What is read of a text is what it spells.
use Rattle.std.proofs.Common.{◌≡◌, ℕ, List, [], drop, map, Result, Ok, Err, IfOk, sym, ◌∙◌}
use Rattle.spec_calculus.specs.Syntax.{Protocol}
use Rattle.spec_certificates.specs.Certificate.{Certificate}
use Rattle.spec_certificate_text.specs.Outcomes.{Outcome, Found}
use Rattle.spec_certificate_text.specs.Reports as reports
use Rattle.spec_node_reading.specs.Readable.{SpellsCertificate}
use Rattle.spec_node_reading.specs.Reading.{read_in_both}
use Rattle.spec_node_reading.specs.Reports.{SpellsReport, read_report_in_both}
use Rattle.fact_reader.specs.declared.error.CertError.{CertError}
use Rattle.fact_reader.specs.declared.error.CertError.TheVariants.{Syntax, Number, Symbol, Arity, Count, NodeOrder, NodeLarge, Memory}
use Rattle.fact_reader.specs.Gives.{HasFault, Gives, same}
use Rattle.cert_text.specs.Seen.{GivesBy}
use Rattle.cert_text.specs.Spelled.{IsMemory, GivesCertificate, GivesReportBy}

-- where something is found there is no fault
found_no_fault : {X : Type 0} (e : CertError) (o : Outcome X) (x : X) (p : ℕ) (r : List ℕ) → o ≡ Found x p r → HasFault e o → IsMemory e
found_no_fault (Syntax place) o x p r found fault = absurd (let never = sym found ∙ fault in cc)
found_no_fault (Number place) o x p r found fault = absurd (let never = sym found ∙ fault in cc)
found_no_fault (Symbol place) o x p r found fault = absurd (let never = sym found ∙ fault in cc)
found_no_fault (Arity place) o x p r found fault = absurd (let never = sym found ∙ fault in cc)
found_no_fault (Count place) o x p r found fault = absurd (let never = sym found ∙ fault in cc)
found_no_fault (NodeOrder place) o x p r found fault = absurd (let never = sym found ∙ fault in cc)
found_no_fault (NodeLarge place) o x p r found fault = absurd (let never = sym found ∙ fault in cc)
found_no_fault (Memory e) o x p r found fault = tt

-- Certificates.

pub certificate_spelled : (P : Protocol) (bytes : List ℕ) (at : ℕ) (result : Result (Certificate × ℕ) CertError)
    → ((bs : List ℕ) (a place : ℕ) (c : Certificate) (rest : List ℕ) → read_in_both P bs a ≡ Found c place rest → SpellsCertificate P bs c rest)
    → Gives same bytes result (read_in_both P (drop at bytes) at) → IfOk result (λ x. SpellsCertificate P (drop at bytes) x.0 (drop x.1 bytes))
certificate_spelled P bytes at (Ok x) there read = there (drop at bytes) at x.1 x.0 (drop x.1 bytes) read
certificate_spelled P bytes at (Err e) there read = tt

pub certificate_given : (P : Protocol) (bytes : List ℕ) (at : ℕ) (result : Result (Certificate × ℕ) CertError) (c : Certificate) (rest : List ℕ)
    → (place : ℕ) × (read_in_both P (drop at bytes) at ≡ Found c place rest)
    → Gives same bytes result (read_in_both P (drop at bytes) at) → GivesCertificate bytes c rest result
certificate_given P bytes at (Ok x) c rest found read =
    let both : Found x.0 x.1 (drop x.1 bytes) ≡ Found c found.0 rest = sym read ∙ found.1 in
    (cc, cc)
certificate_given P bytes at (Err e) c rest found read =
    found_no_fault e (read_in_both P (drop at bytes) at) c found.0 rest found.1 read

-- Reports, whatever their claims are made of.

pub report_spelled : {C : Type 0} (view : C → reports.Claim) (P : Protocol) (bytes : List ℕ) (result : Result (List C) CertError)
    → ((claims : List reports.Claim) (place : ℕ) (rest : List ℕ) → read_report_in_both P bytes ≡ Found claims place rest → SpellsReport P bytes claims)
    → GivesBy view result (read_report_in_both P bytes) → IfOk result (λ claims. SpellsReport P bytes (map view claims))
report_spelled view P bytes (Ok claims) there read = there (map view claims) read.0 [] read.1
report_spelled view P bytes (Err e) there read = tt

pub report_given : {C : Type 0} (view : C → reports.Claim) (P : Protocol) (bytes : List ℕ) (result : Result (List C) CertError) (claims : List reports.Claim)
    → (place : ℕ) × (read_report_in_both P bytes ≡ Found claims place []) → GivesBy view result (read_report_in_both P bytes) → GivesReportBy view claims result
report_given view P bytes (Ok found) claims is read =
    let both : Found (map view found) read.0 [] ≡ Found claims is.0 [] = sym read.1 ∙ is.1 in cc
report_given view P bytes (Err e) claims is read = found_no_fault e (read_report_in_both P bytes) claims is.0 [] is.1 read
