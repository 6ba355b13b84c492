use Rattle.spec_run_text.proofs.Answers.{reading_is_spelling, reading_is_refusal}
use Rattle.spec_run_text.proofs.reading_is_exact.Goals as goal

pub returns-clause-steps : goal.returns-clause-steps
returns-clause-steps c = reading_is_spelling

pub returns-clause-refusal : goal.returns-clause-refusal
returns-clause-refusal c = reading_is_refusal
