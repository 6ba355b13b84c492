use Rattle.clause_form.proofs.Copying.{IsCopied}
use Rattle.clause_form.proofs.copies.+copy_term.Given as goal

abbrev pub invariant-each : goal.invariant-each
invariant-each g l = IsCopied (g.B.Bank.trees l.fn.bank) (g.B.Bank.trees l.bank) l.ids.items l.argument-items l.argument-index
