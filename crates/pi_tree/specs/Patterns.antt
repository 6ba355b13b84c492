-- What contracts see of patterns.
use Rattle.spec_trees.specs.Tree.{Leaf, Node, trees}
use Rattle.spec_calculus.specs.Syntax as calculus
use Rattle.pi_tree.specs.declared.syntax.Pat.{Pat}
use Rattle.pi_tree.specs.declared.syntax.Pat.TheVariants.{Bind, Equal, App, Tuple}
use Rattle.pi_tree.specs.Terms.{term_of}

abbrev pub pattern_of : Pat → calculus.Pattern
pattern_of (Bind i) = Leaf (calculus.Bind i)
pattern_of (Equal term) = Leaf (calculus.Equal (term_of term))
pattern_of (App f arguments) = Node (calculus.Constructor f) (trees arguments)
pattern_of (Tuple parts) = Node calculus.Tuple (trees parts)
