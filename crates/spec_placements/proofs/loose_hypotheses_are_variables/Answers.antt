use Rattle.spec_placements.proofs.Loose.{loose_is_known}
use Rattle.spec_placements.proofs.loose_hypotheses_are_variables.Goals as goal

pub returns : goal.returns
returns c = loose_is_known
