use Rattle.std.proofs.Common.{arith}
use Rattle.std.proofs.lemmas.Grind.{common_steps}
use Rattle.term_values.proofs.Rows.{of_rows}
use Rattle.term_values.proofs.evaluation.+is_value_of.Goals as goal

pub are_values_of-returns-then-not-is_value_of : goal.are_values_of-returns-then-not-is_value_of
are_values_of-returns-then-not-is_value_of t c = grind (arith, common_steps, of_rows)

pub is_value_of-returns-then-constructor-other : goal.is_value_of-returns-then-constructor-other
is_value_of-returns-then-constructor-other t c = grind (arith, common_steps, of_rows)

pub is_value_of-returns-in-Tuple-value : goal.is_value_of-returns-in-Tuple-value
is_value_of-returns-in-Tuple-value t c = grind (arith, common_steps, of_rows)

pub are_values_of-returns : goal.are_values_of-returns
are_values_of-returns t c = grind (arith, common_steps, of_rows)

pub are_values_of-returns-then-len-values : goal.are_values_of-returns-then-len-values
are_values_of-returns-then-len-values t c = grind (arith, common_steps, of_rows)

pub are_values_of-loop-index-preserved : goal.are_values_of-loop-index-preserved
are_values_of-loop-index-preserved t c = grind (arith, common_steps)
