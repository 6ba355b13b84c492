use Rattle.std.proofs.Common.{◌+◌, ◌-◌, ◌≤◌, length}
use Rattle.log_entries.specs.Live.{kept_prints, is_met_at}
use Rattle.log_walks.proofs.Scanning.{IsScanned}
use Rattle.log_walks.proofs.pairs.partner.Given as goal

abbrev pub invariant-each : goal.invariant-each
invariant-each l = record {
  first : IsScanned (is_met_at l.walk.items.items (kept_prints l.walk.live.prints.items) l.later) l.left l.fn.from l.i;
  second : IsScanned (is_met_at l.walk.items.items (kept_prints l.walk.live.prints.items) l.later) l.right l.fn.from l.j;
  first_within : l.i ≤ length l.left;
  second_within : l.j ≤ length l.right;
}

abbrev pub decreases-each : goal.decreases-each
decreases-each l = (length l.left - l.i) + (length l.right - l.j)
