-- the nodes so far are read, and reading goes on
use Rattle.std.proofs.Common.{◌≡◌, ◌-◌, length}
use Rattle.pi_tree.specs.Protocols.{protocol_of}
use Rattle.spec_node_reading.specs.Loops.{lines_through}
use Rattle.fact_reader.specs.Reads.{left_of}
use Rattle.spec_node_counts.specs.Nodes.{no_nodes, node_line}
use Rattle.node_reader.specs.Tables.{table_of}
use Rattle.node_lines.proofs.Loops.{AreThrough}
use Rattle.node_reader.proofs.table.read_nodes.Given as goal

abbrev pub invariant-loop-round : goal.invariant-loop-round
invariant-loop-round l = record {
  read : AreThrough 110 (node_line (protocol_of l.names.protocol.now)) (lines_through 110 (node_line (protocol_of l.names.protocol.now)) (length (left_of l.fn.cursor)) no_nodes (left_of l.fn.cursor) l.fn.cursor.at)
      (length l.fn.cursor.bytes.now - l.round) (left_of l.cursor) l.cursor.at (table_of l.table);
  same : l.cursor.bytes.now ≡ l.fn.cursor.bytes.now;
}
