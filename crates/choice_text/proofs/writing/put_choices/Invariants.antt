use Rattle.std.proofs.Common.{◌++◌, length}
use Rattle.choice_text.specs.Choices.{chosen_text}
use Rattle.choice_text.proofs.Written.{IsWrittenSoFar}
use Rattle.choice_text.proofs.writing.put_choices.Given as goal

abbrev pub invariant-loop-rest : goal.invariant-loop-rest
invariant-loop-rest l = IsWrittenSoFar (l.initial.out.items ++ chosen_text l.plain l.said) l.plain l.said l.out.items l.before l.left l.rest

abbrev pub decreases-loop-rest : goal.decreases-loop-rest
decreases-loop-rest l = length l.rest
