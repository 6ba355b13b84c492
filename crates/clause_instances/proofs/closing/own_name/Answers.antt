use Rattle.std.proofs.Common.{[], ◌∷◌, IfOk, subst}
use Rattle.spec_trees.specs.Tree.{node}
use Rattle.spec_terms.specs.Term.{Term}
use Rattle.spec_terms.specs.Term as term
use Rattle.term_tree.specs.Bank.{Names}
use Rattle.term_tree.proofs.BankLaws.{Grows_trans}
use Rattle.clause_instances.proofs.closing.own_name.Goals as goal

pub returns-clause-grows : goal.returns-clause-grows
returns-clause-grows g c = Grows_trans (g.B.Bank.trees c.args.bank.now) (g.B.Bank.trees c.var.new.self) (g.B.Bank.trees c.app.new.self) c.var.ensures.grows c.app.ensures.grows

pub returns-clause-names : goal.returns-clause-names
returns-clause-names g c = subst (λ (t : Term). IfOk c.app.result (λ id. Names (g.B.Bank.trees c.app.new.self) id (node term.Attacker (t ∷ [])))) c.in_ok-variable.ensures.names.is c.app.ensures.names
