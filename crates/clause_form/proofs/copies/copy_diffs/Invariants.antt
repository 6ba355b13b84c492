use Rattle.clause_form.proofs.Copying.{AreDiffsCopied}
use Rattle.clause_form.proofs.copies.copy_diffs.Given as goal

abbrev pub invariant-loop-one : goal.invariant-loop-one
invariant-loop-one g l = AreDiffsCopied (g.B.Bank.trees l.fn.bank) (g.B.Bank.trees l.bank) l.items.items l.plain l.one-index
