-- What contracts see of what is bound.
use Rattle.spec_calculus.specs.Syntax as calculus
use Rattle.pi_tree.specs.declared.slots.Slot.{Slot}
use Rattle.pi_tree.specs.declared.slots.Slot.TheVariants.{Var, Made}

abbrev pub name_of : Slot → calculus.Name
name_of (Var i) = calculus.Variable i
name_of (Made p) = calculus.Made p
