use Rattle.std.proofs.Common.{arith}
use Rattle.std.proofs.lemmas.Grind.{common_steps}
use Rattle.term_values.proofs.Postfix.{of_postfix}
use Rattle.term_values.proofs.instructions.+list.Goals as goal

pub list_instructions-returns-in_ok-push-in-App : goal.list_instructions-returns-in_ok-push-in-App
list_instructions-returns-in_ok-push-in-App t c = grind (arith, common_steps, of_postfix)

pub list_instructions-returns-in_ok-push-in-Tuple : goal.list_instructions-returns-in_ok-push-in-Tuple
list_instructions-returns-in_ok-push-in-Tuple t c = grind (arith, common_steps, of_postfix)

pub list_instructions-returns-in_ok-push-in-Call : goal.list_instructions-returns-in_ok-push-in-Call
list_instructions-returns-in_ok-push-in-Call t c = grind (arith, common_steps, of_postfix)

pub list_parts-loop-expression-preserved : goal.list_parts-loop-expression-preserved
list_parts-loop-expression-preserved t c = grind (arith, common_steps)

pub list_parts-returns : goal.list_parts-returns
list_parts-returns t c = grind (arith, common_steps)

pub list_instructions-returns-in_ok-push-in-Term : goal.list_instructions-returns-in_ok-push-in-Term
list_instructions-returns-in_ok-push-in-Term t c = grind (arith, common_steps)
