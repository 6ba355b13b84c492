use Rattle.std.proofs.Common.{◌≡◌, map, drop}
use Rattle.spec_trees.specs.Tree.{trees}
use Rattle.pi_tree.specs.Expressions.{expression_of}
use Rattle.pi_tree.specs.Protocols.{protocol_of}
use Rattle.term_values.specs.RuleTests.{has_row_rules}
use Rattle.term_values.proofs.trials.+ruled.Given as goal

abbrev pub invariant-have_rules-loop-expression : goal.invariant-have_rules-loop-expression
invariant-have_rules-loop-expression l =
    has_row_rules (protocol_of l.protocol) (trees (map expression_of (drop l.expression-index l.expression-items))) ≡ has_row_rules (protocol_of l.protocol) (trees (map expression_of l.expression-items))
