use Rattle.std.proofs.Common.{◌≡◌, ℕ, ◌≤◌, nat_eq, length, drop}
use Rattle.std.specs.HashMap.{get}
use Rattle.spec_clauses.specs.FirstPhase.{times}
use Rattle.clause_diffs.specs.Tables.{count_of}
use Rattle.clause_diffs.proofs.numbers.counts_of.Given as goal

abbrev pub invariant-each : goal.invariant-each
invariant-each l = record {
  within : l.i ≤ length l.numbers;
  counted : (x : ℕ) → count_of (get nat_eq l.counts x) ≡ times x (drop l.i l.numbers);
}

abbrev pub decreases-each : goal.decreases-each
decreases-each l = l.i
