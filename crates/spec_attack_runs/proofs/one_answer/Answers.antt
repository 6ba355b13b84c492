use Rattle.spec_attack_runs.proofs.OneAnswer.{one_answer}
use Rattle.spec_attack_runs.proofs.one_answer.Goals as goal

pub returns : goal.returns
returns c = one_answer
