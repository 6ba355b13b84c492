-- What contracts see of values.
use Rattle.spec_trees.specs.Tree.{Leaf, Node, trees}
use Rattle.spec_calculus.specs.Syntax.{Constructor}
use Rattle.spec_calculus.specs.Syntax as calculus
use Rattle.spec_calculus.specs.Values as values
use Rattle.pi_tree.specs.declared.value_trees.Value.{Value}
use Rattle.pi_tree.specs.declared.value_trees.Value.TheVariants.{Free, Made, Fresh, App, Tuple}

abbrev pub value_of : Value → values.Value
value_of (Free n) = Leaf (values.FreeName n)
value_of (Made p n) = Leaf (values.MadeName p n)
value_of (Fresh n) = Leaf (values.AttackerName n)
value_of (App f arguments) = Node (Constructor f) (trees arguments)
value_of (Tuple parts) = Node calculus.Tuple (trees parts)
