use Rattle.std.proofs.Common.{arith, ◌∙◌}
use Rattle.pi_tree.specs.Protocols.{protocol_of}
use Rattle.term_tree.specs.Bank.{symbol_of, tree_at}
use Rattle.process_visits.proofs.Numbered.{no_channel_of, channel_of}
use Rattle.process_visits.proofs.channels.is_public_channel.Goals as goal

pub returns-then-arguments-gt0 : goal.returns-then-arguments-gt0
returns-then-arguments-gt0 g c =
    let all = g.B.Bank.trees c.args.bank.now in
    let root = rw c.in-App.is at c.node.ensures in
    no_channel_of (protocol_of c.args.protocol.now) (symbol_of c.in-App.symbol) (tree_at all) c.in-App.arguments.now (tree_at all c.args.channel) root.0 (omega (arith, c.if-arguments-gt0.true))

pub returns-else-arguments-gt0 : goal.returns-else-arguments-gt0
returns-else-arguments-gt0 g c =
    let all = g.B.Bank.trees c.args.bank.now in
    let root = rw c.in-App.is at c.node.ensures in
    c.is_public_root.ensures ∙ channel_of (protocol_of c.args.protocol.now) (symbol_of c.in-App.symbol) (tree_at all) c.in-App.arguments.now (tree_at all c.args.channel) root.0 (omega (arith, c.if-arguments-gt0.false))
