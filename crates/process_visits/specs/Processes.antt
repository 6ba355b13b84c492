-- The processes that the forms are, by their parts.
use Rattle.spec_calculus.specs.Syntax as calculus
use Rattle.pi_tree.specs.Terms.{term_of}
use Rattle.pi_tree.specs.Patterns.{pattern_of}
use Rattle.pi_tree.specs.Expressions.{expression_of}
use Rattle.pi_tree.specs.Events.{event_of}
use Rattle.pi_tree.specs.Processes.{condition_of, process_of}
use Rattle.process_visits.specs.declared.forms.Output.{Output}
use Rattle.process_visits.specs.declared.forms.Input.{Input}
use Rattle.process_visits.specs.declared.forms.Parallel.{Parallel}
use Rattle.process_visits.specs.declared.forms.Let.{Let}
use Rattle.process_visits.specs.declared.forms.Event.{Event}
use Rattle.process_visits.specs.declared.forms.Phase.{Phase}
use Rattle.process_visits.specs.declared.forms.Insert.{Insert}
use Rattle.process_visits.specs.declared.forms.Get.{Get}

abbrev pub output_form : Output → calculus.Process
output_form output = calculus.Output (term_of output.channel.now) (term_of output.message.now) (process_of output.next.now)

abbrev pub input_form : Input → calculus.Process
input_form input = calculus.Input (term_of input.channel.now) (pattern_of input.pattern.now) (process_of input.next.now)

abbrev pub parallel_form : Parallel → calculus.Process
parallel_form both = calculus.Parallel (process_of both.left.now) (process_of both.right.now)

abbrev pub let_form : Let → calculus.Process
let_form choice = calculus.Let (pattern_of choice.pattern.now) (expression_of choice.expression.now) (process_of choice.next.now) (process_of choice.otherwise.now)

abbrev pub event_form : Event → calculus.Process
event_form event = calculus.Event (event_of event.atom.now) (process_of event.next.now)

abbrev pub phase_form : Phase → calculus.Process
phase_form phase = calculus.Phase phase.number (process_of phase.next.now)

abbrev pub insert_form : Insert → calculus.Process
insert_form insert = calculus.Insert insert.table insert.arguments.now (process_of insert.next.now)

abbrev pub get_form : Get → calculus.Process
get_form get = calculus.Get get.table get.patterns.now (condition_of get.condition.now) (process_of get.next.now) (process_of get.otherwise.now)
