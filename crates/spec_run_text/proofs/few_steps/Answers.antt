use Rattle.spec_run_text.proofs.Lines.{steps_are_few}
use Rattle.spec_run_text.proofs.few_steps.Goals as goal

pub returns : goal.returns
returns c = steps_are_few
