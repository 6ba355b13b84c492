use Rattle.run_replay.proofs.Violations.{one_replay}
use Rattle.run_replay.proofs.laws.one_replay.Goals as goal

pub returns : goal.returns
returns c = one_replay
