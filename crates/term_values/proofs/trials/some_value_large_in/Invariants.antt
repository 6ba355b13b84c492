use Rattle.std.proofs.Common.{◌≡◌, map, drop}
use Rattle.std.specs.List.{list_any}
use Rattle.pi_tree.specs.Expressions.{expression_of}
use Rattle.pi_tree.specs.Protocols.{protocol_of}
use Rattle.term_values.specs.Trying.{large_value}
use Rattle.term_values.proofs.trials.some_value_large_in.Given as goal

abbrev pub invariant-loop-expression : goal.invariant-loop-expression
invariant-loop-expression l =
    list_any (large_value (protocol_of l.context.protocol.now) l.context.environment.now) (map expression_of (drop l.expression-index l.expressions))
    ≡ list_any (large_value (protocol_of l.context.protocol.now) l.context.environment.now) (map expression_of l.expressions)
