-- What contracts see of what is bound.
use Rattle.std.specs.Prelude.{[], ◌++◌, map}
use Rattle.spec_trees.specs.Tree.{Trees, Leaf, Node, trees}
use Rattle.spec_calculus.specs.Syntax.{Name, Symbol}
use Rattle.spec_calculus.specs.Values.{Value, Environment}
use Rattle.spec_calculus.specs.Matching.{places_row}
use Rattle.pi_tree.specs.Values.{value_of}
use Rattle.term_values.specs.declared.bindings.Bound.{Bound, Nothing, All, Beside'}

abbrev pub bound_of : Bound → Environment
bound_of Nothing = []
bound_of (All environment) = environment.now
bound_of (Beside' p earlier terms values) = bound_of earlier ++ places_row (trees terms.now) (trees (map value_of values.now))

-- what stands at the places of terms under a node
abbrev pub places_below : Trees Name Symbol → Value → Environment
places_below ts (Leaf x) = []
places_below ts (Node f vs) = places_row ts vs
