-- there is less and less to be visited
use Rattle.std.proofs.Common.{◌≡◌, ◌+◌, ◌-◌, ◌*◌}
use Rattle.spec_calculus.specs.Syntax.{Expression}
use Rattle.spec_choice_walks.specs.Instructions.{instructions}
use Rattle.pi_tree.specs.Processes.{process_of}
use Rattle.pi_tree.specs.Patterns.{pattern_of}
use Rattle.unified_visits.specs.Places.{protocol_at}
use Rattle.unified_visits.specs.Visits.{visit_at}
use Rattle.visit_choices.specs.Walks.{instructions_of, choices_of}
use Rattle.clause_translate.proofs.Weights.{weight}
use Rattle.clause_translate.proofs.Repeating.{AreVisited}
use Rattle.clause_translate.proofs.Repeated.{AreToldTo}
use Rattle.clause_translate.proofs.+visits.Given as goal

abbrev pub decreases-visits::visit_process : goal.decreases-visits::visit_process
decreases-visits::visit_process g l = 8 * weight (process_of l.process.now) + 2

abbrev pub decreases-visits::visit_counted : goal.decreases-visits::visit_counted
decreases-visits::visit_counted g l = 8 * weight (process_of l.process.now) + 1

abbrev pub decreases-visits::visit_form : goal.decreases-visits::visit_form
decreases-visits::visit_form g l = 8 * weight (process_of l.process.now)

abbrev pub decreases-branches::visit_branch : goal.decreases-branches::visit_branch
decreases-branches::visit_branch g l = 8 * weight (process_of l.process.now) + 3

abbrev pub decreases-branches::visit_way : goal.decreases-branches::visit_way
decreases-branches::visit_way g l = 8 * weight (process_of l.process.now) + 4

abbrev pub decreases-branches::visit_choices : goal.decreases-branches::visit_choices
decreases-branches::visit_choices g l = 8 * weight (process_of l.process.now) + 5

abbrev pub decreases-branches::visit_chosen : goal.decreases-branches::visit_chosen
decreases-branches::visit_chosen g l = 8 * weight (process_of l.process.now) + 6

abbrev pub decreases-visits::visit_output : goal.decreases-visits::visit_output
decreases-visits::visit_output g l = 8 * weight (process_of l.output.now.next.now) + 7

abbrev pub decreases-visits::visit_input : goal.decreases-visits::visit_input
decreases-visits::visit_input g l = 8 * weight (process_of l.input.now.next.now) + 7

abbrev pub decreases-visits::visit_copies : goal.decreases-visits::visit_copies
decreases-visits::visit_copies g l = 8 * weight (process_of l.copied.now) + 7

abbrev pub decreases-visits::visit_new : goal.decreases-visits::visit_new
decreases-visits::visit_new g l = 8 * weight (process_of l.next.now) + 7

abbrev pub decreases-visits::visit_event : goal.decreases-visits::visit_event
decreases-visits::visit_event g l = 8 * weight (process_of l.event.now.next.now) + 7

abbrev pub decreases-visits::visit_phase : goal.decreases-visits::visit_phase
decreases-visits::visit_phase g l = 8 * weight (process_of l.phase.now.next.now) + 7

abbrev pub decreases-visits::visit_insert : goal.decreases-visits::visit_insert
decreases-visits::visit_insert g l = 8 * weight (process_of l.insert.now.next.now) + 7

abbrev pub decreases-branches::visit_get : goal.decreases-branches::visit_get
decreases-branches::visit_get g l = 8 * (weight (process_of l.get.now.next.now) + weight (process_of l.get.now.otherwise.now)) + 7

abbrev pub decreases-visits::visit_parallel : goal.decreases-visits::visit_parallel
decreases-visits::visit_parallel g l = 8 * (weight (process_of l.both.now.left.now) + weight (process_of l.both.now.right.now)) + 7

abbrev pub decreases-branches::visit_let : goal.decreases-branches::visit_let
decreases-branches::visit_let g l = 8 * (weight (process_of l.choice.now.next.now) + weight (process_of l.choice.now.otherwise.now)) + 7

abbrev pub invariant-branches::visit_choices-each : goal.invariant-branches::visit_choices-each
invariant-branches::visit_choices-each g l = record {
  visited : AreVisited (protocol_at l.choosing.place.now) (visit_at (g.B.Bank.trees l.fn.bank) l.choosing.visit.now) (pattern_of l.choosing.pattern.now) (choices_of l.choosing) (process_of l.process) (l.choosing.place.now.point + 1) (g.B.Bank.trees l.fn.bank) (g.B.Bank.trees l.bank) l.fn.listing l.listing l.number;
  told : (e : Expression) → instructions_of l.choosing ≡ instructions e → AreToldTo (protocol_at l.choosing.place.now) (visit_at (g.B.Bank.trees l.fn.bank) l.choosing.visit.now) (pattern_of l.choosing.pattern.now) e (process_of l.process) (l.choosing.place.now.point + 1) l.fn.listing l.listing l.number;
}

abbrev pub decreases-branches::visit_choices-each : goal.decreases-branches::visit_choices-each
decreases-branches::visit_choices-each g l = l.choosing.count - l.number
