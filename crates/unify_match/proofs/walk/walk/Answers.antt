use Rattle.std.proofs.Common.{sym}
use Rattle.unify_match.proofs.Walking.{way_falls, way_goes_on}
use Rattle.unify_match.proofs.walk.walk.Goals as goal

pub chain-smaller : goal.chain-smaller
chain-smaller g c = way_falls (g.B.Bank.trees c.args.bank.now) c.args.binds.now.pairs c.chain.at c.in-Some.next c.in-Var.number c.requires.ready c.in-Var.ensures (sym c.in-Some.ensures)

pub chain-preserved : goal.chain-preserved
chain-preserved g c = way_goes_on (g.B.Bank.trees c.args.bank.now) c.args.binds.now.pairs c.args.id c.chain.at c.in-Some.next c.in-Var.number c.requires.ready c.chain.invariant c.in-Var.ensures (sym c.in-Some.ensures)
