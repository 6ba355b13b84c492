use Rattle.std.proofs.Common.{◌+◌, ◌-◌, length}
use Rattle.spec_calculus.specs.Points.{nodes}
use Rattle.term_tree.specs.Bank.{Grows}
use Rattle.spec_attack_runs.specs.Compiling.{State}
use Rattle.attack_state.specs.States.{IsRun, IsState}
use Rattle.attack_compiling.specs.Walks.{protocol_at, IsOnWay, IsKnownWay}
use Rattle.attack_compiling.proofs.SoFar.{WalkedSoFar}
use Rattle.attack_compiling.proofs.walking.walk_to.Given as goal

abbrev pub invariant-each : goal.invariant-each
invariant-each l = record {
  run : IsRun (protocol_at l.route) l.state;
  grows : Grows l.fn.bank l.bank;
  known : IsKnownWay l.bank l.route;
  on_way : IsOnWay l.route l.walk;
  so_far : (st : State) → IsState l.fn.bank l.fn.state st → WalkedSoFar l.fn.bank l.bank l.route l.walk st l.state;
}

abbrev pub decreases-each : goal.decreases-each
decreases-each l = (length (nodes (protocol_at l.route).main) + 1) - l.walk.point
