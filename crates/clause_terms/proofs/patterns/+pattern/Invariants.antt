use Rattle.std.proofs.Common.{◌+◌, ◌*◌}
use Rattle.spec_trees.specs.Tree.{depth, depths, trees}
use Rattle.spec_translation.specs.Conversion.{pattern_term}
use Rattle.pi_tree.specs.Patterns.{pattern_of}
use Rattle.pi_tree.specs.Protocols.{protocol_of}
use Rattle.clause_terms.specs.Fresh.{fresh_of}
use Rattle.clause_terms.specs.Scopes.{scope_at}
use Rattle.clause_terms.proofs.Making.{AreMade}
use Rattle.clause_terms.proofs.patterns.+pattern.Given as goal

abbrev pub decreases-pattern_grown : goal.decreases-pattern_grown
decreases-pattern_grown g l = 2 * depth (pattern_of l.pattern.now)

abbrev pub decreases-patterns_grown : goal.decreases-patterns_grown
decreases-patterns_grown g l = 2 * depths (trees l.patterns.now) + 1

abbrev pub invariant-patterns_grown-loop-pattern : goal.invariant-patterns_grown-loop-pattern
invariant-patterns_grown-loop-pattern g l = AreMade (λ x. pattern_term (protocol_of l.protocol) (scope_at (g.B.Bank.trees l.fn.bank) l.holes.scope.now) (fresh_of l.holes.at) (pattern_of x)) (g.B.Bank.trees l.fn.bank) (g.B.Bank.trees l.bank) l.items.items l.pattern-items l.pattern-index
