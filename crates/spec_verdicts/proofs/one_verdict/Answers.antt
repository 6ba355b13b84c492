use Rattle.spec_verdicts.proofs.Uniqueness.{one_verdict}
use Rattle.spec_verdicts.proofs.one_verdict.Goals as goal

pub returns : goal.returns
returns c = one_verdict
