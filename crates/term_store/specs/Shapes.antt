-- The shapes of a shared bank: the roots that they show, and when they are equal.
use Rattle.std.specs.Prelude.{◌≡◌, Bool, List, []}
use Rattle.term_tree.specs.Roots.{Root, Variable, Applied}
use Rattle.term_tree.specs.declared.bank.Id.{Id}
use Rattle.term_tree.specs.declared.bank.Node.{Node}
use Rattle.term_tree.specs.declared.bank.Node.TheVariants as shown
use Rattle.term_tree.specs.declared.bank.Sym.TheVariants as symbol
use Rattle.term_store.specs.declared.shape.Head.{Head}
use Rattle.term_store.specs.declared.shape.Head.TheVariants.{Ctor, Data, Tuple, Free, Point, Attacker, Var}
use Rattle.term_store.specs.declared.shape.Shape.{Shape}
use Rattle.term_store.specs.contracts.shape.ShapePartialEq.TheImpl as shape_eq

-- the root that a node shows
abbrev pub node_root : Node → Root
node_root (shown.Var x) = Variable x
node_root (shown.App f args) = Applied f args.now

-- the root of a head over arguments
abbrev pub root_over : Head → List Id → Root
root_over (Ctor f) args = Applied (symbol.Ctor f) args
root_over (Data f) args = Applied (symbol.Data f) args
root_over (Tuple n) args = Applied (symbol.Tuple n) args
root_over (Free a) args = Applied (symbol.Free a) args
root_over (Point p) args = Applied (symbol.Point p) args
root_over Attacker args = Applied symbol.Attacker args
root_over (Var x) args = Variable x

-- the root that a shape shows
abbrev pub root_of : Shape → Root
root_of s = root_over s.head s.args.items

-- a variable has no arguments
abbrev pub IsPlainOver : Head → List Id → Type 0
IsPlainOver (Var x) args = args ≡ []
IsPlainOver (Ctor f) args = Unit {0}
IsPlainOver (Data f) args = Unit {0}
IsPlainOver (Tuple n) args = Unit {0}
IsPlainOver (Free a) args = Unit {0}
IsPlainOver (Point p) args = Unit {0}
IsPlainOver Attacker args = Unit {0}

-- so it is in a shape
abbrev pub IsPlain : Shape → Type 0
IsPlain s = IsPlainOver s.head s.args.items

-- whether two shapes are equal by `==`
abbrev pub same_shape : Shape → Shape → Bool
same_shape = (shape_eq.ghosts).eq
