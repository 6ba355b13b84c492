use Rattle.term_tree.specs.Bank.{tree_at}
use Rattle.spec_terms.specs.Rank.{height, ranks}
use Rattle.unify_match.specs.Seen.{seen}
use Rattle.unify_match.specs.Progress.{effort}
use Rattle.unify_match.proofs.Unifying.{IsGoing}
use Rattle.unify_match.proofs.unification.+unify_from.Given as goal

abbrev pub decreases-unify_from : goal.decreases-unify_from
decreases-unify_from g l = effort (g.B.Bank.trees l.bank.now) l.binds.now.pairs (tree_at (g.B.Bank.trees l.bank.now) l.left)

abbrev pub invariant-each : goal.invariant-each
invariant-each g l = IsGoing (g.B.Bank.trees l.bank) l.fn.binds.pairs l.binds.pairs l.made (height (ranks (seen (g.B.Bank.trees l.bank) l.fn.binds.pairs)) (tree_at (g.B.Bank.trees l.bank) l.fn.left)) l.xs l.ys l.i
