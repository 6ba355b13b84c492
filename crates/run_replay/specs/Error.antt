-- What contracts see of a refusal.
use Rattle.std.specs.Prelude.{ℕ, Option, Some, None}
use Rattle.spec_run_text.specs.Faults as text
use Rattle.run_replay.specs.declared.error.RunError.{RunError}
use Rattle.run_replay.specs.declared.error.RunError.TheVariants.{Word, Number, LongLine, Memory}

-- the fault and the number of its line; want of memory is none
abbrev pub fault_of : RunError → Option (text.Fault × ℕ)
fault_of (Word line) = Some (text.Word, line)
fault_of (Number line) = Some (text.Number, line)
fault_of (LongLine line) = Some (text.LongLine, line)
fault_of (Memory e) = None
