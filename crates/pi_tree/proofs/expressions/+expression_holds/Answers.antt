-- The first that holds it decides.
use Rattle.std.proofs.Common.{arith}
use Rattle.std.proofs.lemmas.Grind.{common_steps}
use Rattle.pi_tree.proofs.expressions.+expression_holds.Goals as goal

pub Exprs::hold_free-loop-expression-preserved : goal.Exprs::hold_free-loop-expression-preserved
Exprs::hold_free-loop-expression-preserved t c = grind (arith, common_steps)

pub Exprs::hold_free-returns-then-holds_free : goal.Exprs::hold_free-returns-then-holds_free
Exprs::hold_free-returns-then-holds_free t c = grind (arith, common_steps)

pub Exprs::hold_free-returns : goal.Exprs::hold_free-returns
Exprs::hold_free-returns t c = grind (arith, common_steps)
