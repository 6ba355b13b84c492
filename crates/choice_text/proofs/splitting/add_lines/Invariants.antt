use Rattle.std.proofs.Common.{length}
use Rattle.choice_text.specs.Lines.{whole_lines, Elsewhere}
use Rattle.choice_text.specs.Splitting.{with_lines}
use Rattle.choice_text.specs.Seen.{parts_of, place_of}
use Rattle.choice_text.proofs.Passing.{IsSplitSoFar}
use Rattle.choice_text.proofs.splitting.add_lines.Given as goal

abbrev pub invariant-loop-rest : goal.invariant-loop-rest
invariant-loop-rest l =
    IsSplitSoFar (with_lines (parts_of l.initial.parts) Elsewhere 1 (whole_lines l.bytes)) l.bytes (parts_of l.parts) (place_of l.place) l.number l.rest

abbrev pub decreases-loop-rest : goal.decreases-loop-rest
decreases-loop-rest l = length l.rest
