use Rattle.std.proofs.Common.{◌≡◌, map, drop, option_map}
use Rattle.spec_trees.specs.Tree.{trees}
use Rattle.pi_tree.specs.Expressions.{expression_of}
use Rattle.pi_tree.specs.Protocols.{protocol_of}
use Rattle.pi_tree.specs.Values.{value_of}
use Rattle.term_values.specs.Labelled.{labelled_row}
use Rattle.term_values.proofs.Behind.{behind}
use Rattle.term_values.proofs.labels.+reading.Given as goal

abbrev pub invariant-read_values-loop-expression : goal.invariant-read_values-loop-expression
invariant-read_values-loop-expression l =
    option_map (behind (map value_of l.items.items) l.large) (labelled_row (protocol_of l.context.protocol.now) l.context.environment.now (trees (map expression_of (drop l.expression-index l.expression-items))) l.left)
    ≡ labelled_row (protocol_of l.context.protocol.now) l.context.environment.now (trees (map expression_of l.expression-items)) l.numbers
