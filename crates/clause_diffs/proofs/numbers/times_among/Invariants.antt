use Rattle.std.proofs.Common.{◌≡◌, ◌+◌, ◌≤◌, drop}
use Rattle.spec_clauses.specs.FirstPhase.{times}
use Rattle.clause_diffs.proofs.numbers.times_among.Given as goal

abbrev pub invariant-loop-one : goal.invariant-loop-one
invariant-loop-one l = record {
  within : l.count ≤ l.one-index;
  counted : l.count + times l.number (drop l.one-index l.numbers) ≡ times l.number l.numbers;
}
