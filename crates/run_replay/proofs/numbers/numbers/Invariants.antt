use Rattle.std.proofs.Common.{◌≡◌, ◌++◌}
use Rattle.std.specs.Prelude.{option_map, option_copied}
use Rattle.spec_run_text.specs.Reading.{numerals}
use Rattle.run_replay.specs.Cut.{fields_of}
use Rattle.run_replay.proofs.Fields.{to_read}
use Rattle.run_replay.proofs.numbers.numbers.Given as goal

abbrev pub invariant-loop-rest : goal.invariant-loop-rest
invariant-loop-rest l =
    numerals (fields_of (option_copied l.fn.behind)) ≡ option_map (λ more. l.numbers.items ++ more) (numerals (fields_of (option_copied l.rest)))

abbrev pub decreases-loop-rest : goal.decreases-loop-rest
decreases-loop-rest l = to_read (option_copied l.rest)
