-- What contracts see of a rule's leaf.
use Rattle.spec_calculus.specs.Syntax as calculus
use Rattle.destructor_rules.specs.declared.bindings.Leaf.{Leaf}
use Rattle.destructor_rules.specs.declared.bindings.Leaf.TheVariants.{Var, Free, Made}

abbrev pub leaf_of : Leaf → calculus.Name
leaf_of (Var i) = calculus.Variable i
leaf_of (Free n) = calculus.Free n
leaf_of (Made p) = calculus.Made p
