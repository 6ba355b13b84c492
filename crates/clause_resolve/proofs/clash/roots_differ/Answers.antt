use Rattle.term_tree.specs.Bank.{symbol_of}
use Rattle.clause_resolve.proofs.Clashing.{counts_apart}
use Rattle.clause_resolve.proofs.clash.roots_differ.Goals as goal

pub returns-then-xs-ys : goal.returns-then-xs-ys
returns-then-xs-ys g c = λ _. counts_apart (g.B.Bank.trees c.args.bank.now) c.args.left c.args.right (symbol_of c.in-App.f) (symbol_of c.in-App-node.g) c.in-App.xs.now c.in-App-node.ys.now c.in-App.ensures.0 c.in-App-node.ensures.0 c.if-xs-ys.true
