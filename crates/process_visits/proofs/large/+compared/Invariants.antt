use Rattle.std.proofs.Common.{◌≡◌, map, drop}
use Rattle.spec_trees.specs.Tree.{trees}
use Rattle.spec_calculus.specs.Limits.{compared_row}
use Rattle.pi_tree.specs.Patterns.{pattern_of}
use Rattle.clause_terms.specs.Scopes.{scope_at}
use Rattle.unified_visits.specs.Places.{protocol_at}
use Rattle.process_visits.specs.Forms.{are_large_in}
use Rattle.process_visits.proofs.large.+compared.Given as goal

abbrev pub invariant-some_large_compared_in-loop-pattern : goal.invariant-some_large_compared_in-loop-pattern
invariant-some_large_compared_in-loop-pattern g l =
    are_large_in (protocol_at l.place) (scope_at (g.B.Bank.trees l.bank) l.scope) (compared_row (trees (map pattern_of (drop l.pattern-index l.pattern-items))))
    ≡ are_large_in (protocol_at l.place) (scope_at (g.B.Bank.trees l.bank) l.scope) (compared_row (trees (map pattern_of l.pattern-items)))
