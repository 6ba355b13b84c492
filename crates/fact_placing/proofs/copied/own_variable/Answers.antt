use Rattle.spec_trees.specs.Tree.{Leaf}
use Rattle.spec_clauses.specs.Diff.{Own}
use Rattle.term_tree.proofs.BankLaws.{Grows_refl}
use Rattle.fact_placing.proofs.InCopy.{own_shown, side_named}
use Rattle.fact_placing.proofs.copied.own_variable.Goals as goal

pub returns-clause-names : goal.returns-clause-names
returns-clause-names g c = side_named (g.T.Bank.trees c.var.new.self) c.args.next c.var.result (Leaf c.args.number) (Leaf (Own c.args.number)) (own_shown c.args.next c.args.number c.if-number-next.false) c.var.ensures.names

pub returns-then-number-next-clause-grows : goal.returns-then-number-next-clause-grows
returns-then-number-next-clause-grows g c = Grows_refl (g.T.Bank.trees c.args.into.now)
