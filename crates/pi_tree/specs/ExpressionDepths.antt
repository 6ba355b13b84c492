-- Expressions are deeper than their parts.
use Rattle.std.specs.Prelude.{◌≤◌, max, List, [], ◌∷◌, map}
use Rattle.std.proofs.Common.{arith}
use denote.Param.Weighed.{most}
use Rattle.spec_trees.specs.Tree.{depth, depths, trees}
use Rattle.pi_tree.specs.declared.expressions.Expr.{Expr}
use Rattle.pi_tree.specs.declared.expressions.Expr.TheVariants.{Term, App, Tuple, Call}
use Rattle.pi_tree.specs.declared.expressions.Exprs.TheDeep.{deep-Expr}
use Rattle.pi_tree.specs.Expressions.{expression_of}

pub deep_le-depth : (e : Expr) → deep-Expr e ≤ depth (expression_of e)
deep_le-depth (Term term) = omega arith
deep_le-depth (App f arguments) = omega arith
deep_le-depth (Tuple parts) = omega arith
deep_le-depth (Call d arguments) = omega arith

-- none of a row is deeper than the row
pub expressions_fall : (es : List Expr) → max (most deep-Expr es) 0 ≤ depths (trees (map expression_of es))
expressions_fall [] = omega arith
expressions_fall (e ∷ es) = omega (arith, deep_le-depth e, expressions_fall es)
