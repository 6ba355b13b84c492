-- The bytes so far, and the lines of what is left, are those of all.
use Rattle.std.proofs.Common.{◌≡◌, ◌+◌, ◌++◌, drop}
use Rattle.choice_text.specs.Choices.{choices_text}
use Rattle.choice_text.proofs.writing.put_all.Given as goal

abbrev pub invariant-each : goal.invariant-each
invariant-each l =
    (l.out.items ++ choices_text l.clause (drop l.said-index l.said) ≡ l.initial.out.items ++ choices_text 1 l.said) × (l.clause ≡ l.said-index + 1)
