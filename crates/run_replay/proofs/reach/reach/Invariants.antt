use Rattle.std.proofs.Common.{◌≡◌}
use Rattle.std.specs.Prelude.{map}
use Rattle.pi_tree.specs.Protocols.{protocol_of}
use Rattle.pi_model.specs.Steps.{step_of}
use Rattle.pi_configurations.specs.Configurations.{configuration_of, IsConfigurationOf}
use Rattle.run_replay.proofs.Applying.{IsSoFar}
use Rattle.run_replay.proofs.reach.reach.Given as goal

abbrev pub invariant-loop-step : goal.invariant-loop-step
invariant-loop-step l = record {
  of_protocol : IsConfigurationOf (protocol_of l.protocol) l.conf;
  counted : l.conf.steps ≡ l.step-index;
  so_far : IsSoFar (protocol_of l.protocol) (map step_of l.steps) l.step-index (configuration_of l.conf);
}
