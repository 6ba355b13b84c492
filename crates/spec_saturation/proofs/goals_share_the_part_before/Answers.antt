use Rattle.spec_saturation.proofs.Common.{any_goal}
use Rattle.spec_saturation.proofs.goals_share_the_part_before.Goals as goal

pub returns : goal.returns
returns c = any_goal
