use Rattle.std.proofs.Common.{◌-◌, ◌≤◌}
use Rattle.spec_saturation.specs.Key.{key}
use Rattle.term_tree.specs.Bank.{Grows}
use Rattle.log_walks.specs.Walked.{IsWalked}
use Rattle.log_walks.proofs.saturating.pass.Given as goal

abbrev pub ghost-resolve : goal.ghost-resolve
ghost-resolve g a = g.task

abbrev pub invariant-each : goal.invariant-each
invariant-each g l = record {
  within : l.earlier ≤ l.turn;
  grows : Grows (g.B.Bank.trees l.fn.bank) (g.B.Bank.trees l.bank);
  walked : IsWalked (g.B.Bank.trees l.bank) g.task l.walk (key l.turn l.earlier 1);
}

abbrev pub decreases-each : goal.decreases-each
decreases-each g l = l.turn - l.earlier
