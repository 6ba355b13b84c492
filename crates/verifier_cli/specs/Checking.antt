-- What a report and the check of its certificates have to do with the outcome.
use Rattle.std.specs.Prelude.{◌≡◌, ℕ, ◌<◌, ◌≤◌, List, [], ◌∷◌, length}
use Rattle.spec_calculus.specs.Bounds.{most_report_bytes}
use Rattle.spec_calculus.specs.Syntax.{Query, Protocol}
use Rattle.spec_protocol_scope.specs.Spells as spells
use Rattle.spec_protocol_scope.specs.Spells.{Spells, Refuses}
use Rattle.spec_certificates.specs.Ruling.{IsRuled}
use Rattle.spec_certificate_text.specs.Reports.{Claim, Proved, Bare, Unknown}
use Rattle.spec_certificate_faults.specs.First.{IsFirstFault}
use Rattle.spec_node_reading.specs.Reports.{SpellsReport, reports_of_both}
use Rattle.hv_io.specs.Place.{line_at}
use Rattle.cert_checker.specs.Rulings.{ruling_of}
use Rattle.call_outcomes.specs.declared.outcome.Finding.{Finding}
use Rattle.call_outcomes.specs.declared.outcome.Finding.TheVariants.{Ruled, Missing, NotClaimed}
use Rattle.call_outcomes.specs.Outcome as own
use Rattle.call_outcomes.specs.Outcome.{ReportRefusal, Misspelled, LongReport, Outcome, Checked, Refused, Report, Memory, Becomes}
use Rattle.verifier_cli.specs.Command.{IsRefusalOf, refusal_at, NoneViolated}

-- the bytes, which are not too many, are a report that claims this of the protocol's queries, in order
abbrev pub MakesClaims : Protocol → List ℕ → List Claim → Type 0
MakesClaims P bytes claims = (length bytes ≤ most_report_bytes) × SpellsReport P bytes claims

-- they are refused so as a report on the protocol, and at that line, from 1: too many before all else, at the first; else for the fault
-- that stands at the earliest place, and of those at one place for the one of the least number
abbrev pub RefusesReport : Protocol → List ℕ → ReportRefusal → ℕ → Type 0
RefusesReport P bytes LongReport line = (most_report_bytes < length bytes) × (line ≡ 1)
RefusesReport P bytes (Misspelled code) line =
    (length bytes ≤ most_report_bytes) × ((place : ℕ) × IsFirstFault (reports_of_both P) bytes 0 place code × (line ≡ line_at bytes place))

-- what is found of a claim about a query: what is ruled of its certificate, that there is none, or that nothing is claimed
abbrev pub IsFindingOf : Protocol → Query → Claim → Finding → Type 0
IsFindingOf P q (Proved certificate) (Ruled ruling) = IsRuled P q certificate (ruling_of ruling)
IsFindingOf P q Bare Missing = Unit {0}
IsFindingOf P q Unknown NotClaimed = Unit {0}
IsFindingOf P q _ _ = ⊥

-- what is found of the claims about the queries, one for each, in order
abbrev pub AreFindingsOf : Protocol → List Query → List Claim → List Finding → Type 0
AreFindingsOf P [] [] [] = Unit {0}
AreFindingsOf P (q ∷ queries) (claim ∷ claims) (finding ∷ findings) =
    IsFindingOf P q claim finding × AreFindingsOf P queries claims findings
AreFindingsOf P _ _ _ = ⊥

-- the outcome is what is found of the claims, or want of memory in its place
abbrev pub IsCheckOf : Protocol → List Claim → Outcome → Type 0
IsCheckOf P claims (Checked findings) = AreFindingsOf P P.queries claims findings
IsCheckOf P claims Memory = Unit {0}
IsCheckOf P claims _ = ⊥

-- the outcome is what is found of the claims that a report makes, or why it is refused and where, or want of memory
abbrev pub IsOutcomeOfReport : Protocol → List ℕ → Outcome → Type 0
IsOutcomeOfReport P bytes (Checked findings) =
    (claims : List Claim) × MakesClaims P bytes claims × AreFindingsOf P P.queries claims findings
IsOutcomeOfReport P bytes (Refused (Report line why)) = RefusesReport P bytes why line
IsOutcomeOfReport P bytes Memory = Unit {0}
IsOutcomeOfReport P bytes _ = ⊥

-- what the bytes of a report on this protocol come to
pub record ChecksReport (P : Protocol) (bytes : List ℕ) (outcome : Outcome) : Type 0 where
  -- the outcome is what is found or a refusal, each with its cause, or want of memory, and nothing else
  pub answers : IsOutcomeOfReport P bytes outcome
  -- claims that are made are checked
  pub accepts : (claims : List Claim) → MakesClaims P bytes claims → IsCheckOf P claims outcome
  -- and a report that is refused gets this refusal, at this line
  pub refuses : (why : ReportRefusal) (line : ℕ) → RefusesReport P bytes why line → Becomes (Refused (Report line why)) outcome

-- what `check` may come to where the protocol's file has these bytes
abbrev pub IsCheckOutcome : List ℕ → Outcome → Type 0
IsCheckOutcome bytes (Refused (own.Protocol line column why)) = IsRefusalOf bytes (own.Protocol line column why)
IsCheckOutcome bytes (Refused (Report line why)) = (P : Protocol) × Spells bytes P
IsCheckOutcome bytes (Checked findings) = (P : Protocol) × Spells bytes P
IsCheckOutcome bytes Memory = Unit {0}
IsCheckOutcome bytes _ = ⊥

-- what `check` comes to where the protocol's file has these bytes, and the report's file this text
pub record Checks (bytes text : List ℕ) (outcome : Outcome) : Type 0 where
  -- the outcome is a refusal or what is found, or want of memory, and nothing else
  pub answers : IsCheckOutcome bytes outcome
  -- where the bytes spell a protocol, the outcome is about the report
  pub accepts : (P : Protocol) → Spells bytes P → ChecksReport P text outcome
  -- and where they are refused, it is this refusal, at this place
  pub refuses : (why : spells.Refusal) (place : ℕ) → Refuses bytes why place → Becomes (Refused (refusal_at bytes why place)) outcome
  -- the headline
  pub none_violated : NoneViolated bytes outcome
