-- What reading may answer.
use Rattle.std.specs.Prelude.{◌≡◌, ℕ, List, None, Result, Ok, Err, IfSome}
use Rattle.spec_calculus.specs.Runs as calculus
use Rattle.pi_model.specs.declared.steps.Step.{Step}
use Rattle.pi_model.specs.Steps.{step_of}
use Rattle.spec_run_text.specs.Faults.{Fault}
use Rattle.spec_run_text.specs.Text.{IsRefused}
use Rattle.spec_run_text.specs.Reading.{read_line}
use Rattle.run_replay.specs.declared.error.RunError.{RunError}
use Rattle.run_replay.specs.Error.{fault_of}

-- the bytes are refused so, and there; want of memory says nothing of them
abbrev pub IsRefusalOf : List ℕ → RunError → Type 0
IsRefusalOf bytes error = IfSome (fault_of error) (λ refusal. IsRefused bytes refusal.0 refusal.1)

-- the error is want of memory
abbrev pub IsMemory : RunError → Type 0
IsMemory error = fault_of error ≡ None

-- these steps, unless memory ran out
abbrev pub GivesSteps : List calculus.Step → Result (List calculus.Step) RunError → Type 0
GivesSteps steps (Ok found) = found ≡ steps
GivesSteps steps (Err error) = IsMemory error

-- this refusal at this line, unless memory ran out
abbrev pub GivesRefusal : Fault → ℕ → Result (List calculus.Step) RunError → Type 0
GivesRefusal fault number (Ok found) = ⊥
GivesRefusal fault number (Err error) = IfSome (fault_of error) (λ refusal. (refusal.0 ≡ fault) × (refusal.1 ≡ number))

-- the step that the line spells, or its fault at that number, unless memory ran out
abbrev pub ReadsLine : List ℕ → ℕ → Result Step RunError → Type 0
ReadsLine line number (Ok step) = read_line line ≡ Ok (step_of step)
ReadsLine line number (Err error) = IfSome (fault_of error) (λ refusal. (read_line line ≡ Err refusal.0) × (refusal.1 ≡ number))
