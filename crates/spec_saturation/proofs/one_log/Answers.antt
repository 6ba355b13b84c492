use Rattle.spec_clauses.proofs.Answers.{one_answer}
use Rattle.spec_saturation.proofs.Uniqueness.{one_log}
use Rattle.spec_saturation.proofs.one_log.Goals as goal

pub returns : goal.returns
returns c = one_log one_answer
