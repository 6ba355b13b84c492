use Rattle.term_tree.proofs.BankLaws.{Grows_trans}
use Rattle.clause_resolve.proofs.resolving.resolvents_under.Goals as goal

pub returns-clause-grows : goal.returns-clause-grows
returns-clause-grows g c = Grows_trans (g.B.Bank.trees c.args.bank.now) (g.B.Bank.trees c.applied_clause.new.bank) (g.B.Bank.trees c.resolvents_of.new.bank) c.applied_clause.ensures.grows c.resolvents_of.ensures.grows
