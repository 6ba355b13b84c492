-- Banks by their roots: each root's tree stands over the trees before it.
use Rattle.std.specs.Prelude.{ℕ, Bool, List, [], ◌∷◌, ◌++◌, map}
use Rattle.spec_trees.specs.Tree.{Leaf, node, size}
use Rattle.spec_terms.specs.Term.{Term, is_ground}
use Rattle.term_tree.specs.Bank.{symbol_of, tree_at, AreKnown, capped}
use Rattle.term_tree.specs.declared.bank.Id.{Id}
use Rattle.term_tree.specs.declared.bank.Sym.{Sym}

-- a root: a variable, or a symbol over the ids of its arguments
pub data Root : Type 0 where
  Variable : (number : ℕ) → Root
  Applied : (symbol : Sym) → (args : List Id) → Root

-- the tree of a root over the trees before it
abbrev pub tree_of : List Term → Root → Term
tree_of before (Variable x) = Leaf x
tree_of before (Applied f args) = node (symbol_of f) (map (tree_at before) args)

-- the trees of the roots after those that are there
abbrev pub built : List Term → List Root → List Term
built before [] = before
built before (r ∷ rs) = built (before ++ tree_of before r ∷ []) rs

-- a root's arguments stand before it
abbrev pub HasArgs : List Term → Root → Type 0
HasArgs before (Variable x) = Unit {0}
HasArgs before (Applied f args) = AreKnown before args

-- each root's arguments stand before it
abbrev pub HaveArgs : List Term → List Root → Type 0
HaveArgs before [] = Unit {0}
HaveArgs before (r ∷ rs) = HasArgs before r × HaveArgs (before ++ tree_of before r ∷ []) rs

-- what a bank tells of a tree beside its root: its size, as it is told, and whether it has no variable
abbrev pub told : Term → ℕ × Bool
told t = (capped (size t), is_ground t)
