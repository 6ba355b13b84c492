use Rattle.spec_run_text.proofs.Answers.{never_both}
use Rattle.spec_run_text.proofs.never_both.Goals as goal

pub returns : goal.returns
returns c = never_both
