-- What contracts see of a refusal of a step.
use Rattle.spec_calculus.specs.Refusals as calculus
use Rattle.pi_model.specs.declared.errors.StepError.{StepError}
use Rattle.pi_model.specs.declared.errors.StepError.TheVariants.{NoThread, WrongForm, UnknownChannel, ChannelsDiffer, NoKnowledge, NoRule, NotFailing, NotPublic, NoEntry, Large}

abbrev pub refusal_of : StepError → calculus.Refusal
refusal_of NoThread = calculus.NoThread
refusal_of WrongForm = calculus.WrongForm
refusal_of UnknownChannel = calculus.UnknownChannel
refusal_of ChannelsDiffer = calculus.ChannelsDiffer
refusal_of NoKnowledge = calculus.NoKnowledge
refusal_of NoRule = calculus.NoRule
refusal_of NotFailing = calculus.NotFailing
refusal_of NotPublic = calculus.NotPublic
refusal_of NoEntry = calculus.NoEntry
refusal_of Large = calculus.Large
