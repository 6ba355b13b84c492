use Rattle.std.proofs.Common.{List, map, take}
use Rattle.spec_terms.specs.Term.{Term}
use Rattle.pi_tree.specs.Protocols.{protocol_of}
use Rattle.spec_attack_runs.specs.Compiling.{State, all_stepped}
use Rattle.attack_state.specs.Outcomes.{IsDoneBy}
use Rattle.attack_state.specs.Parts.{part_step}
use Rattle.attack_state.specs.States.{IsRun, IsState}
use Rattle.attack_state.proofs.state.State.all_parts.Given as goal

abbrev pub invariant-each : goal.invariant-each
invariant-each l = record {
  run : IsRun (protocol_of l.protocol) l.self;
  so_far : (all : List Term) (st : State) → IsState all l.fn.self st → IsDoneBy (all_stepped (protocol_of l.protocol) (map part_step (take l.place-index l.parts))) st all l.self;
}
