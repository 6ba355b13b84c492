use Rattle.std.proofs.Common.{map, take}
use Rattle.pi_tree.specs.Expressions.{expression_of}
use Rattle.pi_tree.specs.Protocols.{protocol_of}
use Rattle.term_values.specs.Trying.{IsRowTried}
use Rattle.term_values.proofs.trials.+trying.Given as goal

abbrev pub invariant-try_each-loop-index : goal.invariant-try_each-loop-index
invariant-try_each-loop-index l =
    IsRowTried (protocol_of l.context.protocol.now) l.context.environment.now l.so_far (map expression_of (take l.index l.expression-items))
