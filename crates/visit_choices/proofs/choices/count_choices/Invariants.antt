use Rattle.std.proofs.Common.{map, drop}
use Rattle.pi_tree.specs.Protocols.{protocol_of}
use Rattle.spec_choice_walks.specs.Instructions.{choices_by}
use Rattle.term_values.specs.Instructions.{instruction_of}
use Rattle.visit_choices.proofs.Counting.{IsProduct}
use Rattle.visit_choices.proofs.choices.count_choices.Given as goal

abbrev pub invariant-each : goal.invariant-each
invariant-each l =
    IsProduct 18446744073709551615 (choices_by (protocol_of l.protocol) (map instruction_of (drop l.instruction-index l.instructions))) (choices_by (protocol_of l.protocol) (map instruction_of l.instructions)) l.count
