use Rattle.term_tree.specs.Bank.{tree_at}
use Rattle.fact_placing.specs.Matched.{side_matched}
use Rattle.fact_placing.proofs.InCopy.{IsCopiedTo}
use Rattle.fact_placing.proofs.copied.copied_terms.Given as goal

abbrev pub invariant-each : goal.invariant-each
invariant-each g l = IsCopiedTo (g.T.Bank.trees l.fn.into) (g.T.Bank.trees l.into) l.from.next (λ x. side_matched (g.B.Bank.trees l.from.bank.now) l.from.binds.now.pairs l.from.first (tree_at (g.B.Bank.trees l.from.bank.now) x)) l.terms l.term-index l.items.items
