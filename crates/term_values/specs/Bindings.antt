-- What contracts see of a binding.
use Rattle.std.specs.Rc.{rc_value}
use Rattle.spec_calculus.specs.Values as calculus
use Rattle.pi_tree.specs.Values.{value_of}
use Rattle.pi_tree.specs.Slots.{name_of}
use Rattle.term_values.specs.declared.environments.Binding.{Binding}

abbrev pub binding_of : Binding → calculus.Binding
binding_of b = record { name = name_of b.slot; value = value_of (rc_value b.value) }
