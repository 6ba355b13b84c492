use Rattle.spec_calculus.proofs.PartValues.{parts_evaluated}
use Rattle.spec_calculus.proofs.parts_are_evaluated.Goals as goal

pub returns : goal.returns
returns c = parts_evaluated
