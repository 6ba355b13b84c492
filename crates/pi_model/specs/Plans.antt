-- Where a thread stands, and whether a step is possible or refused within the limit of size.
use Rattle.std.specs.Prelude.{◌≡◌, ℕ, None, Some}
use Rattle.spec_calculus.specs.Syntax.{Process, Protocol}
use Rattle.spec_calculus.specs.Points.{numbered, nodes}
use Rattle.spec_calculus.specs.Values.{Environment}
use Rattle.spec_calculus.specs.Runs.{At, Ended, Configuration, Step, after_step}
use Rattle.spec_calculus.specs.Refusals.{Refusal}
use Rattle.spec_calculus.specs.Limits.{limited_refusal}
use Rattle.pi_model.specs.declared.errors.StepError.{StepError}
use Rattle.pi_model.specs.declared.errors.StepError.TheVariants.{NoThread, WrongForm}
use Rattle.pi_model.specs.declared.errors.ApplyError.{ApplyError}
use Rattle.pi_model.specs.declared.errors.ApplyError.TheVariants.{Refused, Memory}
use Rattle.pi_model.specs.Errors.{refusal_of}

-- the thread stands at the point in the environment, and that process is there
pub record Stands (P : Protocol) (c : Configuration) (i point : ℕ) (environment : Environment) (process : Process) : Type 0 where
  pub thread : numbered c.threads i ≡ Some (At point environment)
  pub node : numbered (nodes P.main) point ≡ Some process

-- there is no such thread, or it has ended
abbrev pub StandsNowhere : Configuration → ℕ → StepError → Type 0
StandsNowhere c i NoThread = numbered c.threads i ≡ None
StandsNowhere c i WrongForm = numbered c.threads i ≡ Some Ended
StandsNowhere c i other = ⊥

-- the step leads there, and no value of it is large
pub record IsPossible (P : Protocol) (c : Configuration) (step : Step) (d : Configuration) : Type 0 where
  pub after : after_step P c step ≡ Some d
  pub allowed : limited_refusal P c step ≡ None

pub record IsRefused (P : Protocol) (c : Configuration) (step : Step) (r : Refusal) : Type 0 where
  pub refused : limited_refusal P c step ≡ Some r

-- the error is the refusal of the step, or want of memory
abbrev pub IsErrorOf : Protocol → Configuration → Step → ApplyError → Type 0
IsErrorOf P c step (Refused e) = IsRefused P c step (refusal_of e)
IsErrorOf P c step (Memory e) = Unit {0}
