-- What a call comes to without a protocol, and where a file was read or not.
use Rattle.std.specs.Prelude.{ℕ, ◌⊎◌, List}
use Rattle.spec_calculus.specs.Bounds.{most_bytes}
use Rattle.protocol_loading.specs.declared.loading.Unread.{Unread}
use Rattle.protocol_loading.specs.declared.loading.Unread.TheVariants as unread
use Rattle.protocol_loading.specs.Codes.{refusal_by}
use Rattle.protocol_loading.specs.Outside.{Outside, OfFile, IsFaulty, IsNothingLoaded}
use Rattle.call_outcomes.specs.Outcome.{Protocol, Outcome, Refused, ReadFault, Memory}
use Rattle.verifier_cli.specs.Command.{IsRefusalOf}

-- what a call comes to where no load gave bytes: to a fault of reading, with one that was counted, or to want of memory
abbrev pub IsUnloaded : Outside → List ℕ → Outcome → Type 0
IsUnloaded files name ReadFault = IsFaulty files name
IsUnloaded files name Memory = Unit {0}
IsUnloaded files name _ = ⊥

-- the file was read, and this is so of its bytes; or no load gave bytes
abbrev pub IfRead : Outside → List ℕ → ℕ → Outcome → (List ℕ → Type 0) → Type 0
IfRead files name most outcome Fact = OfFile files name most Fact ⊎ (IsNothingLoaded files × IsUnloaded files name outcome)

-- a call that read no protocol in these bytes
abbrev pub IsNoReading : List ℕ → Outcome → Type 0
IsNoReading bytes (Refused refusal) = IsRefusalOf bytes refusal
IsNoReading bytes Memory = Unit {0}
IsNoReading bytes _ = ⊥

-- what a call comes to that has no protocol, by the reason
abbrev pub outcome_by : Unread → Outcome
outcome_by unread.Fault = ReadFault
outcome_by (unread.Refused line column why) = Refused (Protocol line column (refusal_by why))
outcome_by unread.Memory = Memory

-- a call that has no protocol
abbrev pub IsUnread : Outside → List ℕ → Outcome → Type 0
IsUnread files file outcome = IfRead files file most_bytes outcome (λ bytes. IsNoReading bytes outcome)
