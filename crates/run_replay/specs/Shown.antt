-- What a replay may answer.
use Rattle.std.specs.Prelude.{◌≡◌, List, length}
use Rattle.spec_calculus.specs.Syntax.{Protocol}
use Rattle.spec_calculus.specs.Runs.{Step}
use Rattle.pi_model.specs.Errors.{refusal_of}
use Rattle.pi_configurations.specs.Configurations.{configuration_of}
use Rattle.run_replay.specs.Replay as replay
use Rattle.run_replay.specs.Replay.{IsReplayOf}
use Rattle.run_replay.specs.declared.replaying.Replayed.{Replayed}
use Rattle.run_replay.specs.declared.replaying.Replayed.TheVariants.{Done, Stuck}

-- what replaying the steps shows; the end counts the steps
abbrev pub Replays : Protocol → List Step → Replayed → Type 0
Replays P steps (Done end firsts) = IsReplayOf P steps (replay.Done (configuration_of end) firsts) × (end.steps ≡ length steps)
Replays P steps (Stuck number error) = IsReplayOf P steps (replay.Stuck number (refusal_of error))
