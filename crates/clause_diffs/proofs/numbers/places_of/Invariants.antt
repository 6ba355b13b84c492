use Rattle.std.proofs.Common.{◌≡◌, ℕ, ◌+◌, ◌≤◌, nat_eq, Some, length, drop}
use Rattle.std.specs.HashMap.{get}
use Rattle.spec_clauses.specs.Norm.{place_of}
use Rattle.clause_diffs.proofs.numbers.places_of.Given as goal

abbrev pub invariant-each : goal.invariant-each
invariant-each l = record {
  within : l.i ≤ length l.numbers;
  finds : (x p : ℕ) → get nat_eq l.places x ≡ Some p → p ≡ l.i + place_of x (drop l.i l.numbers);
}

abbrev pub decreases-each : goal.decreases-each
decreases-each l = l.i
