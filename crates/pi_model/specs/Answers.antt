-- What the application of a step may answer.
use Rattle.std.specs.Prelude.{◌≡◌, true, None, Some, IsSome}
use Rattle.std.specs.List.{list_any}
use Rattle.spec_calculus.specs.Syntax.{Protocol}
use Rattle.spec_calculus.specs.Runs.{Configuration, Step, after_step}
use Rattle.spec_calculus.specs.Limits.{is_large, evaluated, limited_refusal}
use Rattle.pi_model.specs.declared.errors.StepError.TheVariants.{NoThread, WrongForm, UnknownChannel, ChannelsDiffer, NoKnowledge, NoRule, NotFailing, NotPublic, NoEntry, Large}
use Rattle.pi_model.specs.declared.errors.ApplyError.{ApplyError}
use Rattle.pi_model.specs.declared.errors.ApplyError.TheVariants.{Refused, Memory}
use Rattle.pi_model.specs.Errors.{refusal_of}

-- the step is refused for that cause; want of memory says nothing of it
abbrev pub IsRefusalOf : Protocol → Configuration → Step → ApplyError → Type 0
IsRefusalOf P c step (Refused e) = limited_refusal P c step ≡ Some (refusal_of e)
IsRefusalOf P c step (Memory e) = Unit {0}

-- of a large value, that the step is possible and has one; of each other refusal, that the step is not possible
abbrev pub TellsWhether : Protocol → Configuration → Step → ApplyError → Type 0
TellsWhether P c step (Refused NoThread) = after_step P c step ≡ None
TellsWhether P c step (Refused WrongForm) = after_step P c step ≡ None
TellsWhether P c step (Refused UnknownChannel) = after_step P c step ≡ None
TellsWhether P c step (Refused ChannelsDiffer) = after_step P c step ≡ None
TellsWhether P c step (Refused NoKnowledge) = after_step P c step ≡ None
TellsWhether P c step (Refused NoRule) = after_step P c step ≡ None
TellsWhether P c step (Refused NotFailing) = after_step P c step ≡ None
TellsWhether P c step (Refused NotPublic) = after_step P c step ≡ None
TellsWhether P c step (Refused NoEntry) = after_step P c step ≡ None
TellsWhether P c step (Refused Large) = IsSome (after_step P c step) × (list_any is_large (evaluated P c step) ≡ true)
TellsWhether P c step (Memory e) = Unit {0}
