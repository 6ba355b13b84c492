use Rattle.std.proofs.Common.{◌≡◌, ◌++◌, map, drop, option_map}
use Rattle.spec_calculus.specs.Runs.{known_values}
use Rattle.pi_tree.specs.Values.{value_of}
use Rattle.pi_configurations.specs.Configurations.{configuration_of}
use Rattle.pi_model.proofs.knowledge.known_values.Given as goal

abbrev pub invariant-loop-number : goal.invariant-loop-number
invariant-loop-number l =
    option_map (λ vs. map value_of l.items.items ++ vs) (known_values (configuration_of l.conf) (drop l.number-index l.number-items)) ≡ known_values (configuration_of l.conf) l.number-items
