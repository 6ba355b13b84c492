-- the ids of the numbers so far
use Rattle.node_lines.proofs.NumberIds.{AreIds}
use Rattle.node_lines.proofs.numbers.ids_of.Given as goal

abbrev pub invariant-loop-number : goal.invariant-loop-number
invariant-loop-number l = AreIds l.numbers l.number-index l.items.items
