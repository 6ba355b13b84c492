use Rattle.std.proofs.Common.{length}
use Rattle.choice_text.specs.Splitting.{line_before}
use Rattle.choice_text.specs.Seen.{place_of}
use Rattle.choice_text.proofs.Passing.{IsWantedSoFar}
use Rattle.choice_text.proofs.splitting.line_before.Given as goal

abbrev pub invariant-loop-rest : goal.invariant-loop-rest
invariant-loop-rest l = IsWantedSoFar (line_before l.bytes l.line) l.bytes (place_of l.place) l.number l.wanted l.rest

abbrev pub decreases-loop-rest : goal.decreases-loop-rest
decreases-loop-rest l = length l.rest
