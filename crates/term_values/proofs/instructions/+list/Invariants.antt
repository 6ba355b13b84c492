use Rattle.std.proofs.Common.{◌≡◌, ◌++◌, map, drop}
use Rattle.spec_trees.specs.Tree.{trees}
use Rattle.pi_tree.specs.Expressions.{expression_of}
use Rattle.spec_choice_walks.specs.Instructions.{row_instructions}
use Rattle.term_values.specs.Instructions.{instruction_of}
use Rattle.term_values.proofs.instructions.+list.Given as goal

abbrev pub invariant-list_parts-loop-expression : goal.invariant-list_parts-loop-expression
invariant-list_parts-loop-expression l =
    map instruction_of l.list.items ++ row_instructions (trees (map expression_of (drop l.expression-index l.expression-items)))
    ≡ map instruction_of l.initial.list.items ++ row_instructions (trees (map expression_of l.expression-items))
