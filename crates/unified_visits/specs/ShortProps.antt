-- That tuples are short, and that variables have room, has one proof at most.
use Rattle.std.proofs.Props.{props}
use Rattle.std.specs.Prelude.{ℕ}
use Rattle.std.specs.Coded.{×_prop, Unit-prop, le_prop}
use Rattle.spec_trees.specs.Tree.{Tree, Trees, Leaf, Node, none, more}
use Rattle.spec_calculus.specs.Syntax.{Name, Free, Made, Variable, Symbol, Constructor, Tuple, Hole, Bind, Equal}
use Rattle.spec_well_formed.specs.Terms.{row_length, EachSymbol, EachSymbolInRow}
use Rattle.clause_terms.specs.Conditions.{IsShort, IsShortHole, IsRoomFor}

pub IsShort-prop : (f : Symbol) (count : ℕ) → IsProp (IsShort f count)
IsShort-prop (Constructor f) count = Unit-prop
IsShort-prop Tuple count = le_prop

mutual
  pub short_tuples-prop : {L : Type 0} (t : Tree L Symbol) → IsProp (EachSymbol IsShort t)
  short_tuples-prop (Leaf x) = Unit-prop
  short_tuples-prop (Node f args) = ×_prop (IsShort-prop f (row_length args)) (short_row-prop args)

  pub short_row-prop : {L : Type 0} (ts : Trees L Symbol) → IsProp (EachSymbolInRow IsShort ts)
  short_row-prop none = Unit-prop
  short_row-prop (more t ts) = ×_prop (short_tuples-prop t) (short_row-prop ts)

pub IsShortHole-prop : (hole : Hole) → IsProp (IsShortHole hole)
IsShortHole-prop (Bind i) = Unit-prop
IsShortHole-prop (Equal term) = short_tuples-prop term

pub IsRoomFor-prop : (base : ℕ) (x : Name) → IsProp (IsRoomFor base x)
IsRoomFor-prop base (Free n) = Unit-prop
IsRoomFor-prop base (Made p) = Unit-prop
IsRoomFor-prop base (Variable i) = le_prop

pub ruleset short_props = (short_tuples-prop, IsShortHole-prop, IsRoomFor-prop, props)
