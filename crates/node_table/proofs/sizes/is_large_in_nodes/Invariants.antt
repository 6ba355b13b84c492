use Rattle.std.proofs.Common.{map, take, rc_value}
use Rattle.node_table.proofs.Rooms.{AreCounted}
use Rattle.node_table.proofs.sizes.is_large_in_nodes.Given as goal

abbrev pub invariant-each : goal.invariant-each
invariant-each l = AreCounted (take l.clause-index (map rc_value l.clauses)) l.left
