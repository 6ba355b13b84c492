use Rattle.term_tree.proofs.BankLaws.{Grows_trans}
use Rattle.instance_merging.proofs.opening.own_name.Goals as goal

pub returns-in-Closed-clause-grows : goal.returns-in-Closed-clause-grows
returns-in-Closed-clause-grows c = Grows_trans c.args.bank.now c.var.new.self c.app.new.self c.var.ensures.grows c.app.ensures.grows
