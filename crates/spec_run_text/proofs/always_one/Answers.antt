use Rattle.spec_run_text.proofs.Answers.{always_one}
use Rattle.spec_run_text.proofs.always_one.Goals as goal

pub returns : goal.returns
returns c = always_one
