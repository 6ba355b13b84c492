-- there is less and less to be read
use Rattle.std.proofs.Common.{◌+◌, ◌*◌}
use Rattle.pi_parser.specs.Processes.{process_of, unit_of, next_of}
use Rattle.scope_check.specs.Forms.{form_of, macros_weight, process_weight, unit_weight, next_weight, weight_of}
use Rattle.scope_check.proofs.processes.+process.Given as goal

abbrev pub decreases-process : goal.decreases-process
decreases-process l = 2 * weight_of l.site.now.macros.now (form_of l.start) + 1

abbrev pub decreases-at_point : goal.decreases-at_point
decreases-at_point l = 2 * weight_of l.site.now.macros.now (form_of l.form)

abbrev pub decreases-both : goal.decreases-both
decreases-both l = 2 * (macros_weight l.site.now.macros.now + unit_weight (unit_of l.unit.now) + process_weight (process_of l.others.now)) + 6

abbrev pub decreases-replication : goal.decreases-replication
decreases-replication l = 2 * (macros_weight l.site.now.macros.now + unit_weight (unit_of l.copied.now)) + 5

abbrev pub decreases-restriction : goal.decreases-restriction
decreases-restriction l = 2 * (macros_weight l.site.now.macros.now + next_weight (next_of l.next.now)) + 5

abbrev pub decreases-output : goal.decreases-output
decreases-output l = 2 * (macros_weight l.site.now.macros.now + next_weight (next_of l.next.now)) + 5

abbrev pub decreases-input : goal.decreases-input
decreases-input l = 2 * (macros_weight l.site.now.macros.now + next_weight (next_of l.next.now)) + 5

abbrev pub decreases-happening : goal.decreases-happening
decreases-happening l = 2 * (macros_weight l.site.now.macros.now + next_weight (next_of l.next.now)) + 5

abbrev pub decreases-waiting : goal.decreases-waiting
decreases-waiting l = 2 * (macros_weight l.site.now.macros.now + next_weight (next_of l.next.now)) + 5

abbrev pub decreases-insertion : goal.decreases-insertion
decreases-insertion l = 2 * (macros_weight l.site.now.macros.now + next_weight (next_of l.next.now)) + 5

abbrev pub decreases-retrieval : goal.decreases-retrieval
decreases-retrieval l = 2 * (macros_weight l.site.now.macros.now + unit_weight (unit_of l.branches.now.unit.now) + next_weight (next_of l.branches.now.otherwise.now)) + 5

abbrev pub decreases-choice : goal.decreases-choice
decreases-choice l = 2 * (macros_weight l.site.now.macros.now + unit_weight (unit_of l.branches.now.unit.now) + next_weight (next_of l.branches.now.otherwise.now)) + 5

abbrev pub decreases-comparison : goal.decreases-comparison
decreases-comparison l = 2 * (macros_weight l.site.now.macros.now + unit_weight (unit_of l.branches.now.unit.now) + next_weight (next_of l.branches.now.otherwise.now)) + 5

abbrev pub decreases-continuation : goal.decreases-continuation
decreases-continuation l = 2 * (macros_weight l.site.now.macros.now + next_weight (next_of l.next.now)) + 4
