-- What contracts see of expressions.
use Rattle.spec_trees.specs.Tree.{Leaf, Node, trees}
use Rattle.spec_calculus.specs.Syntax as calculus
use Rattle.pi_tree.specs.declared.expressions.Expr.{Expr}
use Rattle.pi_tree.specs.declared.expressions.Expr.TheVariants.{Term, App, Tuple, Call}
use Rattle.pi_tree.specs.Terms.{term_of}

abbrev pub expression_of : Expr → calculus.Expression
expression_of (Term term) = Leaf (term_of term)
expression_of (App f arguments) = Node (calculus.Builds (calculus.Constructor f)) (trees arguments)
expression_of (Tuple parts) = Node (calculus.Builds calculus.Tuple) (trees parts)
expression_of (Call d arguments) = Node (calculus.Calls d) (trees arguments)
