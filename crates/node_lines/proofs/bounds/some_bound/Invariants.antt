-- in the terms of the numbers so far no bound variable stands
use Rattle.node_lines.proofs.BoundNodes.{AreUnbound}
use Rattle.node_lines.proofs.bounds.some_bound.Given as goal

abbrev pub invariant-loop-number : goal.invariant-loop-number
invariant-loop-number l = AreUnbound l.bounds l.numbers l.number-index
