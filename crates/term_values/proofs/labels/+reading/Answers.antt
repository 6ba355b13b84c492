use Rattle.std.proofs.Common.{arith}
use Rattle.std.proofs.lemmas.Grind.{common_steps}
use Rattle.term_values.proofs.labels.+reading.Goals as goal

pub read_values-loop-expression-preserved : goal.read_values-loop-expression-preserved
read_values-loop-expression-preserved t c = grind (arith, common_steps)

pub read_values-returns : goal.read_values-returns
read_values-returns t c = grind (arith, common_steps)

pub read_values-returns-in_default : goal.read_values-returns-in_default
read_values-returns-in_default t c = grind (arith, common_steps)

pub read_value-returns-in-Some : goal.read_value-returns-in-Some
read_value-returns-in-Some t c = grind (arith, common_steps)

pub read_values-loop-expression-init : goal.read_values-loop-expression-init
read_values-loop-expression-init t c = grind (arith, common_steps)

pub read_value-returns-in-Some-2 : goal.read_value-returns-in-Some-2
read_value-returns-in-Some-2 t c = grind (arith, common_steps)

pub read_value-returns-in-None-3 : goal.read_value-returns-in-None-3
read_value-returns-in-None-3 t c = grind (arith, common_steps)

pub read_value-returns-in-None : goal.read_value-returns-in-None
read_value-returns-in-None t c = grind (arith, common_steps)

pub read_value-returns-in-None-2 : goal.read_value-returns-in-None-2
read_value-returns-in-None-2 t c = grind (arith, common_steps)

pub read_value-returns-in-Some-3 : goal.read_value-returns-in-Some-3
read_value-returns-in-Some-3 t c = grind (arith, common_steps)

pub read_value-returns-in_ok-value-in-Term : goal.read_value-returns-in_ok-value-in-Term
read_value-returns-in_ok-value-in-Term t c = grind (arith, common_steps)
