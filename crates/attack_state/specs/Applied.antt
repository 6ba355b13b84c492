-- The value of a term whose root is applied to parts.
use Rattle.std.specs.Prelude.{List}
use Rattle.spec_trees.specs.Tree.{node}
use Rattle.spec_calculus.specs.Syntax.{Constructor}
use Rattle.spec_calculus.specs.Syntax as calculus
use Rattle.spec_calculus.specs.Values.{Value}
use Rattle.spec_terms.specs.Term.{Sym, Ctor, Data}

-- a constructor over its arguments, or a tuple of its parts
abbrev pub applied : Sym → List Value → Value
applied (Ctor f) parts = node (Constructor f) parts
applied (Data f) parts = node (Constructor f) parts
applied _ parts = node calculus.Tuple parts
