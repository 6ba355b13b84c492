-- What contracts see of terms.
use Rattle.spec_trees.specs.Tree.{Leaf, Node, trees}
use Rattle.spec_calculus.specs.Syntax as calculus
use Rattle.pi_tree.specs.declared.syntax.Term.{Term}
use Rattle.pi_tree.specs.declared.syntax.Term.TheVariants.{Var, Free, Made, App, Tuple}

abbrev pub term_of : Term → calculus.Term
term_of (Var i) = Leaf (calculus.Variable i)
term_of (Free n) = Leaf (calculus.Free n)
term_of (Made p) = Leaf (calculus.Made p)
term_of (App f arguments) = Node (calculus.Constructor f) (trees arguments)
term_of (Tuple parts) = Node calculus.Tuple (trees parts)
