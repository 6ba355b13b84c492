use Rattle.std.proofs.Common.{◌+◌, ◌*◌}
use Rattle.spec_trees.specs.Tree.{depth, depths, trees}
use Rattle.pi_tree.specs.Patterns.{pattern_of}
use Rattle.clause_terms.specs.Fresh.{fresh_of}
use Rattle.clause_terms.proofs.Binding.{AreBound}
use Rattle.clause_terms.proofs.bound.+bound.Given as goal

abbrev pub decreases-add_bound : goal.decreases-add_bound
decreases-add_bound g l = 2 * depth (pattern_of l.pattern.now)

abbrev pub decreases-add_all_bound : goal.decreases-add_all_bound
decreases-add_all_bound g l = 2 * depths (trees l.patterns.now) + 1

abbrev pub invariant-add_all_bound-loop-pattern : goal.invariant-add_all_bound-loop-pattern
invariant-add_all_bound-loop-pattern g l = AreBound (fresh_of l.at) (g.B.Bank.trees l.fn.bank) (g.B.Bank.trees l.bank) l.fn.scope l.scope l.pattern-items l.pattern-index
