-- Patterns are deeper than their arguments.
use Rattle.std.specs.Prelude.{◌≤◌, max, List, [], ◌∷◌, map}
use Rattle.std.proofs.Common.{arith}
use denote.Param.Weighed.{most}
use Rattle.spec_trees.specs.Tree.{depth, depths, trees}
use Rattle.pi_tree.specs.declared.syntax.Pat.{Pat}
use Rattle.pi_tree.specs.declared.syntax.Pat.TheVariants.{Bind, Equal, App, Tuple}
use Rattle.pi_tree.specs.declared.syntax.Pats.TheDeep.{deep-Pat}
use Rattle.pi_tree.specs.Patterns.{pattern_of}

pub deep_le-depth : (t : Pat) → deep-Pat t ≤ depth (pattern_of t)
deep_le-depth (Bind i) = omega arith
deep_le-depth (Equal term) = omega arith
deep_le-depth (App f arguments) = omega arith
deep_le-depth (Tuple parts) = omega arith

-- none of a row is deeper than the row
pub patterns_fall : (ts : List Pat) → max (most deep-Pat ts) 0 ≤ depths (trees (map pattern_of ts))
patterns_fall [] = omega arith
patterns_fall (t ∷ ts) = omega (arith, deep_le-depth t, patterns_fall ts)
