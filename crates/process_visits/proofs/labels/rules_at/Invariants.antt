use Rattle.std.proofs.Common.{map, drop}
use Rattle.term_values.specs.Instructions.{instruction_of}
use Rattle.unified_visits.specs.Places.{protocol_at}
use Rattle.visit_choices.specs.Walks.{instructions_of}
use Rattle.process_visits.proofs.Labelling.{IsTaken}
use Rattle.process_visits.proofs.labels.rules_at.Given as goal

abbrev pub invariant-each : goal.invariant-each
invariant-each l = IsTaken (protocol_at l.choosing.place.now) (instructions_of l.choosing) (map instruction_of (drop l.instruction-index l.instruction-items)) l.number l.left l.rest l.rules.items
