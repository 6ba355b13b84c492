use Rattle.std.proofs.Common.{◌+◌, ◌-◌, ◌<◌, ◌≤◌, length}
use Rattle.spec_saturation.specs.Key.{key}
use Rattle.log_walks.specs.Walked.{IsWalked}
use Rattle.log_walks.proofs.saturating.offer_given.Given as goal

abbrev pub invariant-each : goal.invariant-each
invariant-each g l = record {
  some : 0 < l.k;
  within : l.k ≤ length l.given + 1;
  walked : IsWalked (g.B.Bank.trees l.bank) g.task l.walk (key 0 0 l.k);
}

abbrev pub decreases-each : goal.decreases-each
decreases-each g l = length l.given + 1 - l.k
