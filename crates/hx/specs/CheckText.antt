-- What `check` shows of a report on a protocol.
use Rattle.std.specs.Prelude.{◌≡◌, ℕ, List, None}
use Rattle.spec_calculus.specs.Bounds.{most_report_bytes}
use Rattle.spec_calculus.specs.Syntax as syntax
use Rattle.protocol_loading.specs.Outside.{Outside, OfFile}
use Rattle.call_outcomes.specs.Outcome.{Outcome, Checked, Refused, Report}
use Rattle.call_outcomes.specs.Text.{outcome_bytes, status_of}
use Rattle.choice_check.specs.Checking.{ChecksChosen}
use Rattle.hx.specs.declared.outcome.Output.{Output}
use Rattle.hx.specs.Status.{HasStatus}

-- the check of a report ends with what is found of each claim, or with a refusal of the report
abbrev pub IsEndOfCheck : Outcome → Type 0
IsEndOfCheck (Checked findings) = Unit {0}
IsEndOfCheck (Refused (Report line why)) = Unit {0}
IsEndOfCheck _ = ⊥

-- what is shown of a report with these bytes
pub record TellsCheck (P : syntax.Protocol) (bytes : List ℕ) (page : Output) : Type 0 where
  -- what the check of the bytes comes to: its causes, and that no run violates a query whose certificate is accepted
  pub outcome : Outcome
  pub checks : ChecksChosen P bytes outcome
  -- that is the text, and its status
  pub text : page.text.items ≡ outcome_bytes 1 None outcome
  pub status : HasStatus page.outcome (status_of outcome)

-- so of the bytes of the report's file
abbrev pub IsCheckPage : syntax.Protocol → Outside → List ℕ → Output → Type 0
IsCheckPage P files report page = OfFile files report most_report_bytes (λ bytes. TellsCheck P bytes page)
