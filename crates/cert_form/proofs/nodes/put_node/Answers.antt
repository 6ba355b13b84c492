use Rattle.std.proofs.lemmas.Result.{on_ok_weaker}
use Rattle.pi_tree.specs.Protocols.{protocol_of}
use Rattle.term_tree.specs.Bank.{symbol_of, tree_at}
use Rattle.cert_form.proofs.NodeLines.{symbol_put}
use Rattle.cert_form.proofs.nodes.put_node.Goals as goal

pub returns-in_ok-put_node_head-in-App : goal.returns-in_ok-put_node_head-in-App
returns-in_ok-put_node_head-in-App c = on_ok_weaker c.put_arguments.result (λ numbers.
    symbol_put c.args.table.now (protocol_of c.args.protocol.now) (tree_at c.args.table.now c.args.id) (symbol_of c.in-App.symbol) c.in-App.arguments.now c.args.out.now.items c.put_node_head.new.out.items c.put_arguments.new.out.items c.in-App.ensures.0 c.in_ok-put_node_head-in-App.ensures numbers)
    c.put_arguments.ensures
