use Rattle.std.proofs.Common.{◌-◌, length}
use Rattle.attack_state.specs.States.{KnowsSome}
use Rattle.attack_state.proofs.values.Known.reach.Given as goal

abbrev pub invariant-each : goal.invariant-each
invariant-each l = KnowsSome l.known l.self

abbrev pub decreases-each : goal.decreases-each
decreases-each l = length l.known - l.self.count
