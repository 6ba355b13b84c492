use Rattle.std.proofs.Common.{arith}
use Rattle.std.proofs.lemmas.Grind.{common_steps}
use Rattle.term_tree.proofs.BankLaws.{Grows_trans}
use Rattle.clause_form.proofs.copies.copy_fact.Goals as goal

pub returns-in_err-message-in-Mess-clause-grows : goal.returns-in_err-message-in-Mess-clause-grows
returns-in_err-message-in-Mess-clause-grows g c = Grows_trans (g.B.Bank.trees c.args.bank.now) (g.B.Bank.trees c.copy_term-in-Mess.new.bank) (g.B.Bank.trees c.copy_term-in-Mess-2.new.bank) c.copy_term-in-Mess.ensures.grows c.copy_term-in-Mess-2.ensures.grows

pub returns-in_ok-message-in-Mess-clause-grows : goal.returns-in_ok-message-in-Mess-clause-grows
returns-in_ok-message-in-Mess-clause-grows g c = Grows_trans (g.B.Bank.trees c.args.bank.now) (g.B.Bank.trees c.copy_term-in-Mess.new.bank) (g.B.Bank.trees c.copy_term-in-Mess-2.new.bank) c.copy_term-in-Mess.ensures.grows c.copy_term-in-Mess-2.ensures.grows

pub returns-in_ok-copy_term-in-Att-clause-names : goal.returns-in_ok-copy_term-in-Att-clause-names
returns-in_ok-copy_term-in-Att-clause-names g c = grind (arith, common_steps)
