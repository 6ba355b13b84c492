use Rattle.std.proofs.Common.{◌∙◌, refl, ap, arith}
use Rattle.std.proofs.lemmas.Grind.{common_steps}
use Rattle.call_outcomes.specs.SeenOutcome.{outcome_of}
use Rattle.call_outcomes.specs.Text.{words_of}
use Rattle.call_outcomes.specs.declared.outcome.Outcome.TheVariants.{Usage, ReadFault, Memory}
use Rattle.call_outcomes.proofs.Written.{memory_has_words, written_of}
use Rattle.call_outcomes.proofs.writing.respond.Goals as goal

pub returns-in-Usage-clause-written : goal.returns-in-Usage-clause-written
returns-in-Usage-clause-written g c =
    written_of c.args.format _ _ _ _ (words_of c.args.protocol) _ Usage (c.finish.ensures.outcome ∙ c.in-Usage.is) c.finish.ensures.whole c.finish.ensures.part refl

pub returns-in-ReadFault-clause-written : goal.returns-in-ReadFault-clause-written
returns-in-ReadFault-clause-written g c =
    written_of c.args.format _ _ _ _ (words_of c.args.protocol) _ ReadFault (c.finish-in-ReadFault.ensures.outcome ∙ c.in-ReadFault.is) c.finish-in-ReadFault.ensures.whole c.finish-in-ReadFault.ensures.part refl

pub returns-in-Memory-clause-written : goal.returns-in-Memory-clause-written
returns-in-Memory-clause-written g c =
    written_of c.args.format _ _ _ _ (words_of c.args.protocol) _ Memory (c.finish-in-Memory.ensures.outcome ∙ c.in-Memory.is) c.finish-in-Memory.ensures.whole c.finish-in-Memory.ensures.part refl

pub returns-in-Err-clause-written : goal.returns-in-Err-clause-written
returns-in-Err-clause-written g c =
    written_of c.args.format _ _ _ _ (words_of c.args.protocol) _ Memory c.finish-in-Err.ensures.outcome c.finish-in-Err.ensures.whole c.finish-in-Err.ensures.part refl

pub returns-in-Err-clause-words : goal.returns-in-Err-clause-words
returns-in-Err-clause-words g c =
    memory_has_words (words_of c.args.protocol) (outcome_of c.finish-in-Err.result.outcome) (ap outcome_of c.finish-in-Err.ensures.outcome)

pub returns-in-Ok : goal.returns-in-Ok
returns-in-Ok g c = grind (arith, common_steps)

pub returns-in-Err-clause-status : goal.returns-in-Err-clause-status
returns-in-Err-clause-status g c = grind (arith, common_steps)

pub returns-in-Err-clause-outcome : goal.returns-in-Err-clause-outcome
returns-in-Err-clause-outcome g c = grind (arith, common_steps)
