use Rattle.spec_run_text.proofs.Answers.{one_refusal}
use Rattle.spec_run_text.proofs.one_refusal.Goals as goal

pub returns : goal.returns
returns c = one_refusal
