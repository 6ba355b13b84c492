-- What contracts see of a declared name.
use Rattle.spec_calculus.specs.Syntax as calculus
use Rattle.pi_tree.specs.declared.names.Declared.{Declared}

abbrev pub declared_of : Declared → calculus.Declared
declared_of d = record { word = d.word; arity = d.arity; public = d.public; is_data = d.is_data }
