-- The plain bank: its entries as roots, each with the size of its tree and whether that has no variable.
use Rattle.std.specs.Prelude.{◌≡◌, List, [], map}
use Rattle.term_tree.specs.Roots.{Root, Variable, Applied, built, HaveArgs, told}
use Rattle.term_tree.specs.declared.tree_bank.Shape.{Shape}
use Rattle.term_tree.specs.declared.tree_bank.Shape.TheVariants.{Var, App}
use Rattle.term_tree.specs.declared.tree_bank.Entry.{Entry}

-- the root that a shape shows
abbrev pub root_of : Shape → Root
root_of (Var x) = Variable x
root_of (App f args) = Applied f args.items

-- the roots of entries
abbrev pub roots : List Entry → List Root
roots es = map (λ e. root_of e.shape) es

-- each entry's arguments stand before it, and it tells of its tree what is so
pub record IsWell (es : List Entry) : Type 0 where
  pub args : HaveArgs [] (roots es)
  pub tells : map (λ e. (e.size, e.ground)) es ≡ map told (built [] (roots es))
