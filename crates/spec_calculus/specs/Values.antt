-- Values of terms in an environment (Blanchet 2016, section 2.2: terms with names in place of their variables).
use Rattle.std.specs.Prelude.{ℕ, Bool, true, false, ◌&&◌, nat_eq, List, [], ◌∷◌, cond, Option, None, Some, unwrap_or, map}
use Rattle.spec_trees.specs.Tree.{Tree, Leaf, bind, trees}
use Rattle.spec_trees.specs.Same.{same_tree, same_trees}
use Rattle.spec_calculus.specs.Syntax.{Name, Free, Made, Variable, Symbol, Constructor, Tuple, Term}

-- a name that stands in values
pub data Atom : Type 0 where
  -- the declared free name of that number
  FreeName : (number : ℕ) → Atom
  -- the name that the restriction at that point made as the name of that number of the run
  MadeName : (point number : ℕ) → Atom
  -- the name that the attacker made as the name of that number of the run
  AttackerName : (number : ℕ) → Atom

-- a value: names, and constructors of values
abbrev pub Value : Type 0
Value = Tree Atom Symbol

-- what a leaf of terms stands for
pub record Binding : Type 0 where
  pub name : Name
  pub value : Value

-- what the leaves that are bound stand for, in the order in which they were bound
abbrev pub Environment : Type 0
Environment = List Binding

abbrev pub same_name : Name → Name → Bool
same_name (Free m) (Free n) = nat_eq m n
same_name (Made p) (Made q) = nat_eq p q
same_name (Variable i) (Variable j) = nat_eq i j
same_name x y = false

abbrev pub same_symbol : Symbol → Symbol → Bool
same_symbol (Constructor m) (Constructor n) = nat_eq m n
same_symbol (Constructor m) Tuple = false
same_symbol Tuple (Constructor n) = false
same_symbol Tuple Tuple = true

abbrev pub same_atom : Atom → Atom → Bool
same_atom (FreeName m) (FreeName n) = nat_eq m n
same_atom (MadeName p m) (MadeName q n) = nat_eq p q && nat_eq m n
same_atom (AttackerName m) (AttackerName n) = nat_eq m n
same_atom x y = false

-- whether two values are equal
abbrev pub same_value : Value → Value → Bool
same_value v w = same_tree same_atom same_symbol v w

-- the value that the environment binds to the leaf; no leaf is bound twice on the way of a thread
abbrev pub bound_to : Environment → Name → Option Value
bound_to [] x = None
bound_to (binding ∷ later) x = cond (same_name binding.name x) (Some binding.value) (bound_to later x)

-- what the environment binds the leaf to; a leaf that is not bound is the free name 0, which nothing declares
abbrev pub value_of_bound : Environment → Name → Value
value_of_bound environment x = unwrap_or (bound_to environment x) (Leaf (FreeName 0))

-- the value of a leaf: a free name is itself
abbrev pub value_of_name : Environment → Name → Value
value_of_name environment (Free n) = Leaf (FreeName n)
value_of_name environment (Made p) = value_of_bound environment (Made p)
value_of_name environment (Variable i) = value_of_bound environment (Variable i)

-- the value of a term
abbrev pub value_of : Environment → Term → Value
value_of environment term = bind (value_of_name environment) term

abbrev pub values_of : Environment → List Term → List Value
values_of environment terms = map (value_of environment) terms

-- whether two lists of values are equal
abbrev pub same_values : List Value → List Value → Bool
same_values vs ws = same_trees same_atom same_symbol (trees vs) (trees ws)
