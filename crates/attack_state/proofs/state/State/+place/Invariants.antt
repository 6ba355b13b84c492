use Rattle.std.proofs.Common.{◌+◌, ◌*◌, map, drop}
use Rattle.spec_trees.specs.Tree.{trees, depth, depths}
use Rattle.term_tree.specs.Bank.{tree_at}
use Rattle.pi_tree.specs.Protocols.{protocol_of}
use Rattle.spec_attack_runs.specs.Compiling.{State}
use Rattle.attack_state.specs.States.{IsRun, IsState}
use Rattle.attack_state.proofs.SoFar.{PlacedSoFar}
use Rattle.attack_state.proofs.state.State.+place.Given as goal

abbrev pub decreases-place : goal.decreases-place
decreases-place l = 2 * depth (tree_at l.bank.now l.term)

abbrev pub decreases-places : goal.decreases-places
decreases-places l = 2 * depths (trees (map (tree_at l.bank.now) l.terms.now)) + 1

abbrev pub invariant-places-each : goal.invariant-places-each
invariant-places-each l = record {
  run : IsRun (protocol_of l.protocol) l.self;
  so_far : (st : State) → IsState l.bank l.fn.self st → PlacedSoFar (protocol_of l.protocol) l.bank (trees (map (tree_at l.bank) l.terms)) (trees (map (tree_at l.bank) (drop l.term-index l.terms))) st l.items.items l.self;
}
