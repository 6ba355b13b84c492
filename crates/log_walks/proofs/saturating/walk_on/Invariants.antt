use Rattle.std.proofs.Common.{◌-◌, ◌≤◌, length}
use Rattle.term_tree.specs.Bank.{Grows}
use Rattle.log_walks.specs.Walked.{IsWalked, turn_end}
use Rattle.log_walks.proofs.saturating.walk_on.Given as goal

abbrev pub ghost-pass : goal.ghost-pass
ghost-pass g a = g.task

abbrev pub invariant-each : goal.invariant-each
invariant-each g l = record {
  within : l.turn ≤ length l.walk.items.items;
  few : length l.walk.items.items ≤ g.task.budget;
  grows : Grows (g.B.Bank.trees l.fn.bank) (g.B.Bank.trees l.bank);
  walked : IsWalked (g.B.Bank.trees l.bank) g.task l.walk (turn_end g.task l.turn);
}

abbrev pub decreases-each : goal.decreases-each
decreases-each g l = g.task.budget - l.turn
