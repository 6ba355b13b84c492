use Rattle.spec_calculus.proofs.Growth.{violation_stays}
use Rattle.spec_calculus.proofs.violations_stay.Goals as goal

pub returns : goal.returns
returns c = violation_stays
