-- Owned trees are deeper than their arguments.
use Rattle.std.specs.Prelude.{◌≤◌, max, List, [], ◌∷◌, map}
use Rattle.std.proofs.Common.{arith}
use denote.Param.Weighed.{most}
use Rattle.spec_trees.specs.Tree.{depth, depths, trees}
use Rattle.clause_diffs.specs.declared.plain.Tree.{Tree}
use Rattle.clause_diffs.specs.declared.plain.Tree.TheVariants.{Var, App}
use Rattle.clause_diffs.specs.declared.plain.Trees.TheDeep.{deep-Tree}
use Rattle.clause_diffs.specs.Plain.{term_of}

pub deep_le-depth : (t : Tree) → deep-Tree t ≤ depth (term_of t)
deep_le-depth (Var x) = omega arith
deep_le-depth (App f ts) = omega arith

-- none of a row is deeper than the row
pub trees_fall : (ts : List Tree) → max (most deep-Tree ts) 0 ≤ depths (trees (map term_of ts))
trees_fall [] = omega arith
trees_fall (t ∷ ts) = omega (arith, deep_le-depth t, trees_fall ts)
