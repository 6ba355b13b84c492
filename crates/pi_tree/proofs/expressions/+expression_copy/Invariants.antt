use Rattle.std.proofs.Common.{◌≡◌, take}
use Rattle.pi_tree.proofs.expressions.+expression_copy.Given as goal

abbrev pub invariant-Exprs::copy-loop-expression : goal.invariant-Exprs::copy-loop-expression
invariant-Exprs::copy-loop-expression l = l.items.items ≡ take l.expression-index l.expression-items
