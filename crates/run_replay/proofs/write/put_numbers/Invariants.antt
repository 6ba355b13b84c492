-- The bytes so far, and the numbers that are left, are those of all.
use Rattle.std.proofs.Common.{◌≡◌, ◌++◌, drop, map}
use Rattle.std.specs.List.{concat}
use Rattle.spec_run_text.specs.Spelling.{spaced}
use Rattle.run_replay.proofs.write.put_numbers.Given as goal

abbrev pub invariant-each : goal.invariant-each
invariant-each l = l.out.items ++ concat (map spaced (drop l.number-index l.numbers)) ≡ l.initial.out.items ++ concat (map spaced l.numbers)
