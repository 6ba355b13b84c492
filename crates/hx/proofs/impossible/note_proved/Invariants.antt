use Rattle.hx.specs.Noted.{AreNoted}
use Rattle.hx.proofs.impossible.note_proved.Given as goal

-- the subjects so far
abbrev pub invariant-loop-index : goal.invariant-loop-index
invariant-loop-index l = AreNoted l.index l.subjects l.answers l.initial.found l.found
