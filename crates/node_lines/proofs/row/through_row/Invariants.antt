-- the walk has gone through the numbers so far
use Rattle.spec_node_starts.specs.Starts.{through_row}
use Rattle.node_lines.specs.Seen.{row_of}
use Rattle.node_lines.proofs.Starts.{IsThrough}
use Rattle.node_lines.proofs.row.through_row.Given as goal

abbrev pub invariant-loop-number : goal.invariant-loop-number
invariant-loop-number l = IsThrough l.starts l.numbers (through_row l.starts record { least = 0; last = 0 } l.numbers) (row_of l.row) l.number-index
