use Rattle.std.proofs.Common.{◌≡◌, map, take}
use Rattle.clause_sources.specs.Seen.{choice_of}
use Rattle.clause_sources.proofs.source.Choices.copy.Given as goal

abbrev pub invariant-each : goal.invariant-each
invariant-each l = map choice_of l.items.items ≡ map choice_of (take l.choice-index l.choice-items)
