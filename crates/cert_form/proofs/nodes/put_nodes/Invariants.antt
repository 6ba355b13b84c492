use Rattle.std.proofs.Common.{map}
use Rattle.pi_tree.specs.Protocols.{protocol_of}
use Rattle.spec_node_tables.specs.Nodes.{node_of}
use Rattle.cert_form.specs.Remaining.{HasPut, nodes_from}
use Rattle.cert_form.proofs.nodes.put_nodes.Given as goal

abbrev pub invariant-each : goal.invariant-each
invariant-each l = HasPut (nodes_from (protocol_of l.protocol)) l.index (map (node_of l.table) l.table) l.initial.out.items l.out.items
