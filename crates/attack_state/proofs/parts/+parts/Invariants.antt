use Rattle.std.proofs.Common.{◌≡◌, ◌+◌, ◌≤◌, ◌++◌, length, map, drop}
use Rattle.spec_trees.specs.Tree.{trees}
use Rattle.pi_tree.specs.Protocols.{protocol_of}
use Rattle.pi_tree.specs.Values.{value_of}
use Rattle.spec_attack_runs.specs.Attack.{most_steps}
use Rattle.spec_attack_runs.specs.Compiling.{row_parts_of}
use Rattle.attack_state.specs.Parts.{part_step}
use Rattle.attack_state.proofs.parts.+parts.Given as goal

abbrev pub invariant-add_row_parts-each : goal.invariant-add_row_parts-each
invariant-add_row_parts-each l = record {
  few : length l.parts.items ≤ most_steps;
  counted : l.index ≤ length l.parts.items;
  so_far : map part_step l.parts.items ++ row_parts_of (protocol_of l.protocol) l.place (l.index + 1) (l.first + length l.parts.items + 1) (trees (map value_of (drop l.index l.value-items)))
      ≡ map part_step l.fn.parts.items ++ row_parts_of (protocol_of l.protocol) l.place 1 (l.first + length l.fn.parts.items + 1) (trees (map value_of l.value-items));
}
