-- Banks as lists of trees.
use Rattle.std.specs.Prelude.{◌≡◌, ℕ, ◌^◌, ◌<◌, min, List, [], ◌∷◌, ◌++◌, length, map, slice_get}
use Rattle.std.specs.Option.{unwrap_or}
use Rattle.spec_trees.specs.Tree.{Leaf, node}
use Rattle.spec_terms.specs.Term.{Term}
use Rattle.spec_terms.specs.Term as term
use Rattle.term_tree.specs.declared.bank.Id.{Id}
use Rattle.term_tree.specs.declared.bank.Sym.{Sym}
use Rattle.term_tree.specs.declared.bank.Sym.TheVariants.{Ctor, Data, Tuple, Free, Point, Attacker}
use Rattle.term_tree.specs.declared.bank.Node.{Node}
use Rattle.term_tree.specs.declared.bank.Node.TheVariants.{Var, App}

-- the symbol of terms that a symbol of the bank stands for
abbrev pub symbol_of : Sym → term.Sym
symbol_of (Ctor f) = term.Ctor f
symbol_of (Data f) = term.Data f
symbol_of (Tuple n) = term.Tuple n
symbol_of (Free a) = term.Free a
symbol_of (Point p) = term.Point p
symbol_of Attacker = term.Attacker

-- the tree that an id names (of an id that names none: a variable)
abbrev pub tree_at : List Term → Id → Term
tree_at all id = unwrap_or (slice_get all id.index) (Leaf 0)

-- each of the ids names a tree
abbrev pub AreKnown : List Term → List Id → Type 0
AreKnown all [] = Unit {0}
AreKnown all (id ∷ ids) = (id.index < length all) × AreKnown all ids

-- the id names the tree t
pub record Names (all : List Term) (id : Id) (t : Term) : Type 0 where
  pub known : id.index < length all
  pub is : tree_at all id ≡ t

-- the later list is the earlier one, with more trees at its end
abbrev pub Grows : List Term → List Term → Type 0
Grows old new = (more : List Term) × (new ≡ old ++ more)

-- the root and the arguments' ids are those of the tree t
abbrev pub IsNodeOf : List Term → Node → Term → Type 0
IsNodeOf all (Var x) t = t ≡ Leaf x
IsNodeOf all (App f args) t = (t ≡ node (symbol_of f) (map (tree_at all) args.now)) × AreKnown all args.now

-- equal trees have equal ids
abbrev pub AreShared : List Term → Type 0
AreShared all = (a b : Id) → a.index < length all → b.index < length all
    → tree_at all a ≡ tree_at all b → a ≡ b

-- a size as it is told: 2^63 where it is greater
abbrev pub capped : ℕ → ℕ
capped n = min n (2 ^ 63)
