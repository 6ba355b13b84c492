use Rattle.spec_attack_runs.proofs.Laws.{compiled_replay}
use Rattle.spec_attack_runs.proofs.compiled_steps_replay.Goals as goal

pub returns : goal.returns
returns c = compiled_replay
