-- What the reading of a run answers.
use Rattle.std.specs.Prelude.{ℕ, List}
use Rattle.spec_calculus.specs.Bounds.{most_run_bytes}
use Rattle.spec_run_text.specs.Faults as run
use Rattle.protocol_loading.specs.declared.loading.Unloaded.{Unloaded}
use Rattle.protocol_loading.specs.declared.loading.Unloaded.TheVariants as unloaded
use Rattle.protocol_loading.specs.Outside.{Outside}
use Rattle.run_replay.specs.declared.error.RunError.{RunError}
use Rattle.run_replay.specs.declared.error.RunError.TheVariants as error
use Rattle.call_outcomes.specs.Outcome.{Faulty, LongRun, Run, Outcome, Refused, ReadFault, Memory}
use Rattle.verifier_cli.specs.Unread.{IfRead}
use Rattle.verifier_cli.specs.Replaying.{RefusesRun}

-- a call whose run could not be loaded
abbrev pub run_not_loaded : Unloaded → Outcome
run_not_loaded unloaded.Failed = ReadFault
run_not_loaded unloaded.TooLong = Refused (Run 1 LongRun)
run_not_loaded unloaded.Memory = Memory

-- or not be read
abbrev pub run_not_read : RunError → Outcome
run_not_read (error.Word line) = Refused (Run line (Faulty run.Word))
run_not_read (error.Number line) = Refused (Run line (Faulty run.Number))
run_not_read (error.LongLine line) = Refused (Run line (Faulty run.LongLine))
run_not_read (error.Memory e) = Memory

-- a call that read no run in these bytes
abbrev pub IsNoRun : List ℕ → Outcome → Type 0
IsNoRun bytes (Refused (Run line why)) = RefusesRun bytes why line
IsNoRun bytes Memory = Unit {0}
IsNoRun bytes _ = ⊥

-- a call that has no run
abbrev pub IsUnreadRun : Outside → List ℕ → Outcome → Type 0
IsUnreadRun files run outcome = IfRead files run most_run_bytes outcome (λ bytes. IsNoRun bytes outcome)
