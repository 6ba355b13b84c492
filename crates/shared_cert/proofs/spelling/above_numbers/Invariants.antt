use Rattle.std.proofs.Common.{◌≡◌, max, take}
use Rattle.clause_form.specs.Bounds.{above}
use Rattle.shared_cert.proofs.spelling.above_numbers.Given as goal

abbrev pub invariant-loop-number : goal.invariant-loop-number
invariant-loop-number l = l.found ≡ max l.least (above (take l.number-index l.numbers))
