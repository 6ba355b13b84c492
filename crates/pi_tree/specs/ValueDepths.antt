-- Values are deeper than their arguments.
use Rattle.std.specs.Prelude.{◌≤◌, max, List, [], ◌∷◌, map}
use Rattle.std.proofs.Common.{arith}
use denote.Param.Weighed.{most}
use Rattle.spec_trees.specs.Tree.{depth, depths, trees}
use Rattle.pi_tree.specs.declared.value_trees.Value.{Value}
use Rattle.pi_tree.specs.declared.value_trees.Value.TheVariants.{Free, Made, Fresh, App, Tuple}
use Rattle.pi_tree.specs.declared.value_trees.Values.TheDeep.{deep-Value}
use Rattle.pi_tree.specs.Values.{value_of}

pub deep_le-depth : (t : Value) → deep-Value t ≤ depth (value_of t)
deep_le-depth (Free n) = omega arith
deep_le-depth (Made p n) = omega arith
deep_le-depth (Fresh n) = omega arith
deep_le-depth (App f arguments) = omega arith
deep_le-depth (Tuple parts) = omega arith

-- none of a row is deeper than the row
pub values_fall : (ts : List Value) → max (most deep-Value ts) 0 ≤ depths (trees (map value_of ts))
values_fall [] = omega arith
values_fall (t ∷ ts) = omega (arith, deep_le-depth t, values_fall ts)
