-- Terms are deeper than their arguments.
use Rattle.std.specs.Prelude.{◌≤◌, max, List, [], ◌∷◌, map}
use Rattle.std.proofs.Common.{arith}
use denote.Param.Weighed.{most}
use Rattle.spec_trees.specs.Tree.{depth, depths, trees}
use Rattle.pi_tree.specs.declared.syntax.Term.{Term}
use Rattle.pi_tree.specs.declared.syntax.Term.TheVariants.{Var, Free, Made, App, Tuple}
use Rattle.pi_tree.specs.declared.syntax.Terms.TheDeep.{deep-Term}
use Rattle.pi_tree.specs.Terms.{term_of}

pub deep_le-depth : (t : Term) → deep-Term t ≤ depth (term_of t)
deep_le-depth (Var i) = omega arith
deep_le-depth (Free n) = omega arith
deep_le-depth (Made p) = omega arith
deep_le-depth (App f arguments) = omega arith
deep_le-depth (Tuple parts) = omega arith

-- none of a row is deeper than the row
pub terms_fall : (ts : List Term) → max (most deep-Term ts) 0 ≤ depths (trees (map term_of ts))
terms_fall [] = omega arith
terms_fall (t ∷ ts) = omega (arith, deep_le-depth t, terms_fall ts)
