-- One item more is copied.
use Rattle.std.proofs.Common.{arith}
use Rattle.std.proofs.lemmas.Grind.{common_steps}
use Rattle.pi_tree.proofs.value_trees.+value_copy.Goals as goal

pub Values::copy-loop-value-preserved : goal.Values::copy-loop-value-preserved
Values::copy-loop-value-preserved t c = grind (arith, common_steps)

pub Values::copy-returns : goal.Values::copy-returns
Values::copy-returns t c = grind (arith, common_steps)

pub Value::copy-returns-in_ok-copy-in-App : goal.Value::copy-returns-in_ok-copy-in-App
Value::copy-returns-in_ok-copy-in-App t c = grind (arith, common_steps)
