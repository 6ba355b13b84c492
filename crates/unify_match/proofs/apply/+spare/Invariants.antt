use Rattle.spec_terms.specs.Rank.{height, ranks}
use Rattle.term_tree.specs.Bank.{tree_at}
use Rattle.unify_match.specs.Seen.{seen}
use Rattle.unify_match.proofs.Applying.{IsCounting}
use Rattle.unify_match.proofs.apply.+spare.Given as goal

abbrev pub decreases-spare : goal.decreases-spare
decreases-spare g l = height (ranks (seen (g.B.Bank.trees l.bank.now) l.binds.now.pairs)) (tree_at (g.B.Bank.trees l.bank.now) l.id)

abbrev pub invariant-each : goal.invariant-each
invariant-each g l = IsCounting (g.B.Bank.trees l.bank) l.binds.pairs l.fn.id l.fn.most l.args l.arg-index l.left
