use Rattle.std.proofs.Common.{refl, arith}
use Rattle.pi_tree.specs.Protocols.{protocol_of}
use Rattle.cert_form.proofs.NodeLines.{node_put, nodes_put}
use Rattle.cert_form.proofs.nodes.put_nodes.Goals as goal

pub each-preserved : goal.each-preserved
each-preserved c =
    node_put c.args.table.now (protocol_of c.args.protocol.now) c.each.index record { index = c.each.index } c.args.out.now.items c.each.out.items c.put.new.out.items c.put_node.new.out.items c.put-in-each.new.out.items
    c.each.invariant (omega (arith, c.each-test.true, c.len-index-end.ensures)) refl c.in_ok-put.ensures c.in_ok-put_node.ensures c.in_ok-put-2.ensures

pub returns : goal.returns
returns c = nodes_put c.args.table.now (protocol_of c.args.protocol.now) c.each.index c.args.out.now.items c.each.out.items c.each.invariant (omega (arith, c.each-test.false, c.len-index-end.ensures))
