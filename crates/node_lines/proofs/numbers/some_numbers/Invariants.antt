-- the numbers so far are read, each that of a node, and reading goes on
use Rattle.std.proofs.Common.{◌≡◌, ◌-◌, suc, [], length}
use Rattle.std.specs.List.{AllByRecursion}
use Rattle.spec_node_tables.specs.Order.{IsNumberOf}
use Rattle.spec_node_reading.specs.Loops.{lines_through}
use Rattle.spec_node_reading.specs.ReadNodes.{spaced_number}
use Rattle.fact_reader.specs.Reads.{left_of}
use Rattle.node_lines.proofs.Loops.{AreThrough}
use Rattle.node_lines.proofs.numbers.some_numbers.Given as goal

abbrev pub invariant-loop-round : goal.invariant-loop-round
invariant-loop-round l = record {
  read : AreThrough 32 (spaced_number (suc l.nodes)) (lines_through 32 (spaced_number (suc l.nodes)) (length (left_of l.fn.cursor)) [] (left_of l.fn.cursor) l.fn.cursor.at)
      (length l.fn.cursor.bytes.now - l.round) (left_of l.cursor) l.cursor.at l.items.items;
  same : l.cursor.bytes.now ≡ l.fn.cursor.bytes.now;
  within : AllByRecursion (IsNumberOf l.nodes) l.items.items;
}
