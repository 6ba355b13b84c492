use Rattle.spec_soundness.proofs.GoalRows.{rows_tell}
use Rattle.spec_soundness.proofs.goal_rows_tell.Goals as goal

pub returns : goal.returns
returns c = rows_tell
