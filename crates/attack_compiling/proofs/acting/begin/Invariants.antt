use Rattle.std.proofs.Common.{◌-◌, List}
use Rattle.spec_terms.specs.Term.{Term}
use Rattle.spec_attack_runs.specs.Compiling.{State}
use Rattle.attack_state.specs.States.{IsRun, IsState}
use Rattle.attack_compiling.specs.Walks.{protocol_at}
use Rattle.attack_compiling.proofs.SoFar.{BegunSoFar}
use Rattle.attack_compiling.proofs.acting.begin.Given as goal

abbrev pub invariant-each : goal.invariant-each
invariant-each l = record {
  run : IsRun (protocol_at l.route) l.state;
  so_far : (all : List Term) (st : State) → IsState all l.fn.state st → BegunSoFar (protocol_at l.route) all (l.number - st.configuration.phase) l.left st l.state;
}

abbrev pub decreases-each : goal.decreases-each
decreases-each l = l.left
