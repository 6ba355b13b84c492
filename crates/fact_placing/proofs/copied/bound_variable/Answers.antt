use Rattle.spec_trees.specs.Tree.{Leaf}
use Rattle.spec_clauses.specs.Diff.{Bound}
use Rattle.term_tree.proofs.BankLaws.{Grows_refl}
use Rattle.fact_placing.proofs.InCopy.{bound_shown, side_named}
use Rattle.fact_placing.proofs.copied.bound_variable.Goals as goal

pub returns-in-Some-clause-names : goal.returns-in-Some-clause-names
returns-in-Some-clause-names g c = side_named (g.T.Bank.trees c.var.new.self) c.args.next c.var.result (Leaf c.in-Some.number) (Leaf (Bound c.args.place)) (bound_shown c.args.next c.args.place c.in-Some.number c.in-Some.ensures) c.var.ensures.names

pub returns-in-None-clause-grows : goal.returns-in-None-clause-grows
returns-in-None-clause-grows g c = Grows_refl (g.T.Bank.trees c.args.into.now)
