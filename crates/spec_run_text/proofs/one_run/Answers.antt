use Rattle.spec_run_text.proofs.Answers.{one_run}
use Rattle.spec_run_text.proofs.one_run.Goals as goal

pub returns : goal.returns
returns c = one_run
