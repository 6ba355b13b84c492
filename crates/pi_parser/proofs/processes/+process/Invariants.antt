use Rattle.std.proofs.Common.{◌+◌, ◌*◌}
use Rattle.pi_parser.proofs.processes.+process.Given as goal

abbrev pub decreases-branches : goal.decreases-branches
decreases-branches l = 4 * l.left + 2

abbrev pub decreases-happens : goal.decreases-happens
decreases-happens l = 4 * l.left + 3

abbrev pub decreases-get_in : goal.decreases-get_in
decreases-get_in l = 4 * l.left + 3

abbrev pub decreases-if_then : goal.decreases-if_then
decreases-if_then l = 4 * l.left + 3

abbrev pub decreases-inner : goal.decreases-inner
decreases-inner l = 4 * l.left + 3

abbrev pub decreases-input : goal.decreases-input
decreases-input l = 4 * l.left + 3

abbrev pub decreases-insert : goal.decreases-insert
decreases-insert l = 4 * l.left + 3

abbrev pub decreases-let_in : goal.decreases-let_in
decreases-let_in l = 4 * l.left + 3

abbrev pub decreases-new : goal.decreases-new
decreases-new l = 4 * l.left + 3

abbrev pub decreases-next : goal.decreases-next
decreases-next l = 4 * l.left + 1

abbrev pub decreases-output : goal.decreases-output
decreases-output l = 4 * l.left + 3

abbrev pub decreases-phase : goal.decreases-phase
decreases-phase l = 4 * l.left + 3

abbrev pub decreases-process : goal.decreases-process
decreases-process l = 4 * l.left

abbrev pub decreases-replicated : goal.decreases-replicated
decreases-replicated l = 4 * l.left + 3

abbrev pub decreases-unit : goal.decreases-unit
decreases-unit l = 4 * l.left
