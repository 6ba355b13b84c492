-- What contracts see of a binding.
use Rattle.spec_calculus.specs.Values as calculus
use Rattle.destructor_rules.specs.declared.bindings.Binding.{Binding}
use Rattle.destructor_rules.specs.Leaves.{leaf_of}
use Rattle.pi_tree.specs.Values.{value_of}

abbrev pub binding_of : Binding → calculus.Binding
binding_of b = record { name = leaf_of b.leaf; value = value_of b.value }
