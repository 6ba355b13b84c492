use Rattle.clause_form.proofs.Copying.{IsCopied}
use Rattle.clause_form.proofs.copies.copy_terms.Given as goal

abbrev pub invariant-loop-tree : goal.invariant-loop-tree
invariant-loop-tree g l = IsCopied (g.B.Bank.trees l.fn.bank) (g.B.Bank.trees l.bank) l.items.items l.trees l.tree-index
