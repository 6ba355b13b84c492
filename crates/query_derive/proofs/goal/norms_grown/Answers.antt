use Rattle.term_tree.proofs.BankLaws.{Grows_trans}
use Rattle.query_derive.proofs.goal.norms_grown.Goals as goal

pub returns-clause-grows : goal.returns-clause-grows
returns-clause-grows g c = Grows_trans (g.B.Bank.trees c.args.bank.now) (g.B.Bank.trees c.copy_into.new.bank) (g.B.Bank.trees c.norms_of-made.new.bank) c.copy_into.ensures.grows c.norms_of-made.ensures.grows
