use Rattle.spec_terms.specs.Rank.{height, ranks}
use Rattle.term_tree.specs.Bank.{tree_at}
use Rattle.unify_match.specs.Seen.{seen}
use Rattle.unify_match.proofs.Walking.{IsOnTheWay}
use Rattle.unify_match.proofs.walk.walk.Given as goal

abbrev pub invariant-chain : goal.invariant-chain
invariant-chain g l = IsOnTheWay (g.B.Bank.trees l.bank) l.binds.pairs l.fn.id l.at

abbrev pub decreases-chain : goal.decreases-chain
decreases-chain g l = height (ranks (seen (g.B.Bank.trees l.bank) l.binds.pairs)) (tree_at (g.B.Bank.trees l.bank) l.at)
