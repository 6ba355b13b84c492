-- One item more is copied.
use Rattle.std.proofs.Common.{arith}
use Rattle.std.proofs.lemmas.Grind.{common_steps}
use Rattle.pi_tree.proofs.expressions.+expression_copy.Goals as goal

pub Exprs::copy-loop-expression-preserved : goal.Exprs::copy-loop-expression-preserved
Exprs::copy-loop-expression-preserved t c = grind (arith, common_steps)

pub Exprs::copy-returns : goal.Exprs::copy-returns
Exprs::copy-returns t c = grind (arith, common_steps)

pub Expr::copy-returns-in_ok-copy-in-App : goal.Expr::copy-returns-in_ok-copy-in-App
Expr::copy-returns-in_ok-copy-in-App t c = grind (arith, common_steps)

pub Expr::copy-returns-in_ok-copy-in-Tuple : goal.Expr::copy-returns-in_ok-copy-in-Tuple
Expr::copy-returns-in_ok-copy-in-Tuple t c = grind (arith, common_steps)

pub Expr::copy-returns-in_ok-copy-in-Term : goal.Expr::copy-returns-in_ok-copy-in-Term
Expr::copy-returns-in_ok-copy-in-Term t c = grind (arith, common_steps)

pub Expr::copy-returns-in_ok-copy-in-Call : goal.Expr::copy-returns-in_ok-copy-in-Call
Expr::copy-returns-in_ok-copy-in-Call t c = grind (arith, common_steps)
