-- What a report of any format and the check of its certificates have to do with the outcome.
use Rattle.std.specs.Prelude.{◌≡◌, ℕ, ◌+◌, ◌<◌, ◌≤◌, ◌⊎◌, List, [], ◌∷◌, length, get_or, Option, Some, None, IfSome, slice_get}
use Rattle.spec_calculus.specs.Bounds.{most_report_bytes}
use Rattle.spec_calculus.specs.Syntax.{Query, Protocol}
use Rattle.spec_calculus.specs.Secrecy.{Holds}
use Rattle.spec_certificates.specs.Certificate.{numbers_for}
use Rattle.spec_certificates.specs.Ruling.{IsRuledBy}
use Rattle.spec_certificate_text.specs.Terms.{Code}
use Rattle.spec_certificate_text.specs.Reports.{Claim, Proved, Bare, Unknown}
use Rattle.spec_certificate_faults.specs.First.{IsFirstFault}
use Rattle.spec_node_reading.specs.Reports.{SpellsReport, reports_of_both}
use Rattle.hv_io.specs.Place.{line_at}
use Rattle.cert_checker.specs.Rulings.{ruling_of}
use Rattle.cert_checker.specs.declared.ruling.Ruling.TheVariants.{Accepted}
use Rattle.choice_text.specs.Splitting.{Fault, splitting, line_before}
use Rattle.call_outcomes.specs.declared.outcome.Finding.{Finding}
use Rattle.call_outcomes.specs.declared.outcome.Finding.TheVariants.{Ruled, Missing, NotClaimed}
use Rattle.call_outcomes.specs.Outcome.{ReportRefusal, Misspelled, LongReport, Outcome, Checked, Refused, Report}

-- what the report says of each of its certificates, in order
abbrev pub said_in : List ℕ → List (List (Option ℕ))
said_in bytes = (splitting bytes).said

-- the bytes, which are not too many, are a report that claims this of the protocol's queries, in order: what its lines `s` say can be read, and the others spell it
pub record MakesClaims (P : Protocol) (bytes : List ℕ) (claims : List Claim) : Type 0 where
  pub fits : length bytes ≤ most_report_bytes
  pub readable : (splitting bytes).fault ≡ None
  pub spelled : SpellsReport P (splitting bytes).plain claims

-- the first fault of the others is this one, in that line of the whole text, from 1
pub record IsPlainFault (P : Protocol) (bytes : List ℕ) (code : Code) (line : ℕ) : Type 0 where
  pub place : ℕ
  pub first : IsFirstFault (reports_of_both P) (splitting bytes).plain 0 place code
  pub stands : line ≡ line_before bytes (line_at (splitting bytes).plain place)

-- the first fault of the lines `s` is this one, in that line
pub record IsChoiceFault (bytes : List ℕ) (code : Code) (line : ℕ) : Type 0 where
  pub fault : Fault
  pub first : (splitting bytes).fault ≡ Some fault
  pub is : code ≡ fault.code
  pub stands : line ≡ fault.line

-- the fault that is told, of these two the one in the earlier line, and in one line that of the lines `s`
abbrev pub IsToldFault : Protocol → List ℕ → Code → ℕ → Type 0
IsToldFault P bytes code line =
    (IsPlainFault P bytes code line × ((another : Code) (other : ℕ) → IsChoiceFault bytes another other → line < other))
    ⊎ (IsChoiceFault bytes code line × ((another : Code) (other : ℕ) → IsPlainFault P bytes another other → line ≤ other))

-- the bytes are refused so as a report on the protocol, and at that line: too many before all else, at the first
abbrev pub RefusesReport : Protocol → List ℕ → ReportRefusal → ℕ → Type 0
RefusesReport P bytes LongReport line = (most_report_bytes < length bytes) × (line ≡ 1)
RefusesReport P bytes (Misspelled code) line = (length bytes ≤ most_report_bytes) × IsToldFault P bytes code line

-- what is found of a claim about a query: what is ruled of its certificate by what is said of that one's clauses, that there is none, or that nothing is claimed
abbrev pub IsFindingOf : Protocol → Query → Claim → List (Option ℕ) → Finding → Type 0
IsFindingOf P q (Proved certificate) said (Ruled ruling) = IsRuledBy (numbers_for certificate.clauses said) P q certificate (ruling_of ruling)
IsFindingOf P q Bare said Missing = Unit {0}
IsFindingOf P q Unknown said NotClaimed = Unit {0}
IsFindingOf P q _ said _ = ⊥

-- how many certificates a claim has
abbrev pub certificates_in : Claim → ℕ
certificates_in (Proved certificate) = 1
certificates_in _ = 0

-- what is found of the claims about the queries, one for each, in order, behind so many certificates of a report that says this of each; nothing where no more is said
abbrev pub AreFindingsOf : Protocol → List (List (Option ℕ)) → ℕ → List Query → List Claim → List Finding → Type 0
AreFindingsOf P said before [] [] [] = Unit {0}
AreFindingsOf P said before (q ∷ queries) (claim ∷ claims) (finding ∷ findings) =
    IsFindingOf P q claim (get_or said before []) finding × AreFindingsOf P said (before + certificates_in claim) queries claims findings
AreFindingsOf P said before _ _ _ = ⊥

-- what is found of all claims of the report
abbrev pub AreFindings : Protocol → List ℕ → List Claim → List Finding → Type 0
AreFindings P bytes claims findings = AreFindingsOf P (said_in bytes) 0 P.queries claims findings

-- the outcome is what is found of the claims
abbrev pub IsCheckOf : Protocol → List ℕ → List Claim → Outcome → Type 0
IsCheckOf P bytes claims (Checked findings) = AreFindings P bytes claims findings
IsCheckOf P bytes claims _ = ⊥

-- the outcome is what is found of the claims that a report makes, or why it is refused and where
abbrev pub IsOutcomeOfReport : Protocol → List ℕ → Outcome → Type 0
IsOutcomeOfReport P bytes (Checked findings) = (claims : List Claim) × MakesClaims P bytes claims × AreFindings P bytes claims findings
IsOutcomeOfReport P bytes (Refused (Report line why)) = RefusesReport P bytes why line
IsOutcomeOfReport P bytes _ = ⊥

-- no run of the protocol violates a query at whose place it is found that the certificate is accepted
abbrev pub HoldWhereAccepted : List Query → Protocol → List Finding → Type 0
HoldWhereAccepted queries P findings = (k : ℕ) → slice_get findings k ≡ Some (Ruled Accepted) → IfSome (slice_get queries k) (λ q. Holds P q)

abbrev pub NoneViolated : Protocol → Outcome → Type 0
NoneViolated P (Checked findings) = HoldWhereAccepted P.queries P findings
NoneViolated P _ = Unit {0}

-- what the bytes of a report of any format on this protocol come to, where there is memory
pub record ChecksChosen (P : Protocol) (bytes : List ℕ) (outcome : Outcome) : Type 0 where
  -- the outcome is what is found or a refusal, each with its cause, and nothing else
  pub answers : IsOutcomeOfReport P bytes outcome
  -- claims that are made are checked
  pub accepts : (claims : List Claim) → MakesClaims P bytes claims → IsCheckOf P bytes claims outcome
  -- and a report that is refused gets this refusal, at this line
  pub refuses : (why : ReportRefusal) (line : ℕ) → RefusesReport P bytes why line → outcome ≡ Refused (Report line why)
  -- no run of the protocol beside the attacker violates a query whose certificate is accepted
  pub holds : NoneViolated P outcome
