use Rattle.std.proofs.Common.{◌≡◌, ◌<◌, drop}
use Rattle.attack_state.specs.States.{class_after, node_class}
use Rattle.attack_state.proofs.done.class_of.Given as goal

abbrev pub invariant-each : goal.invariant-each
invariant-each l = record {
  small : l.class < 65521;
  so_far : class_after l.class (drop l.session-index l.sessions) ≡ node_class l.point l.sessions;
}
