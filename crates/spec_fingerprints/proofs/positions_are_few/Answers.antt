use Rattle.spec_fingerprints.proofs.Examples.{positions_few}
use Rattle.spec_fingerprints.proofs.positions_are_few.Goals as goal

pub returns : goal.returns
returns c = positions_few
