use Rattle.std.proofs.Common.{arith}
use Rattle.std.proofs.lemmas.Grind.{common_steps}
use Rattle.term_values.proofs.Rows.{of_rows}
use Rattle.term_values.proofs.evaluation.+evaluate.Goals as goal

pub evaluate-returns-in_ok-evaluate_all-in-App : goal.evaluate-returns-in_ok-evaluate_all-in-App
evaluate-returns-in_ok-evaluate_all-in-App t c = grind (arith, common_steps, of_rows)

pub evaluate-returns-in_ok-evaluate_all-in-Tuple : goal.evaluate-returns-in_ok-evaluate_all-in-Tuple
evaluate-returns-in_ok-evaluate_all-in-Tuple t c = grind (arith, common_steps, of_rows)

pub evaluate_all-returns : goal.evaluate_all-returns
evaluate_all-returns t c = grind (arith, common_steps, of_rows)

pub evaluate_all-loop-term-preserved : goal.evaluate_all-loop-term-preserved
evaluate_all-loop-term-preserved t c = grind (arith, common_steps)

pub evaluate_all-loop-term-init : goal.evaluate_all-loop-term-init
evaluate_all-loop-term-init t c = grind (arith, common_steps)
