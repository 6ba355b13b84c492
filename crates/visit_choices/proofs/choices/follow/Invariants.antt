-- the bank has grown, and a walk that stood before all instructions stands before those that are left
use Rattle.std.proofs.Common.{List, map, drop}
use Rattle.spec_calculus.specs.Syntax.{Ruled}
use Rattle.spec_translation.specs.Visit.{Visit}
use Rattle.term_tree.specs.Bank.{Grows}
use Rattle.term_values.specs.Instructions.{instruction_of}
use Rattle.unified_visits.specs.Places.{protocol_at}
use Rattle.visit_choices.specs.Walks.{instructions_of, IsAlong}
use Rattle.visit_choices.proofs.choices.follow.Given as goal

abbrev pub invariant-each : goal.invariant-each
invariant-each g l = record {
  grows : Grows (g.B.Bank.trees l.fn.bank) (g.B.Bank.trees l.bank);
  along : (v : Visit) (rs : List Ruled) → IsAlong (protocol_at l.choosing.place.now) l.choosing.visit.now v (instructions_of l.choosing) rs (g.B.Bank.trees l.fn.bank) l.fn.walk
      → IsAlong (protocol_at l.choosing.place.now) l.choosing.visit.now v (map instruction_of (drop l.instruction-index l.instruction-items)) rs (g.B.Bank.trees l.bank) l.walk;
}
