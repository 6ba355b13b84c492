-- What is asked of terms and patterns that are made terms of clauses: what those of a protocol have that bytes spell.
use Rattle.std.specs.Prelude.{ℕ, ◌+◌, ◌-◌, ◌^◌, ◌<◌, ◌≤◌}
use Rattle.std.specs.List.{AllByRecursion}
use Rattle.spec_trees.specs.Tree.{Tree}
use Rattle.spec_calculus.specs.Syntax.{Name, Free, Made, Variable, Symbol, Constructor, Tuple, Term, Hole, Bind, Equal, Pattern, Rule}
use Rattle.spec_calculus.specs.Bounds.{most_arguments}
use Rattle.spec_well_formed.specs.Terms.{EachSymbol}
use Rattle.spec_well_formed.specs.Leaves.{leaves}
use Rattle.spec_well_formed.specs.Rules.{rule_leaves}
use Rattle.spec_translation.specs.Conversion.{Fresh, bound_numbers}

-- a tuple has no more parts than the limit
abbrev pub IsShort : Symbol → ℕ → Type 0
IsShort (Constructor f) count = Unit {0}
IsShort Tuple count = count ≤ most_arguments

abbrev pub HasShortTuples : {L : Type 0} → Tree L Symbol → Type 0
HasShortTuples t = EachSymbol IsShort t

-- a pattern, the terms after `=` in it too
abbrev pub IsShortHole : Hole → Type 0
IsShortHole (Bind i) = Unit {0}
IsShortHole (Equal term) = HasShortTuples term

pub record IsShortPattern (p : Pattern) : Type 0 where
  pub tuples : HasShortTuples p
  pub holes : AllByRecursion IsShortHole (leaves p)

-- the variables of a rule, made those from the base on, stay below 2^32
abbrev pub IsRoomFor : ℕ → Name → Type 0
IsRoomFor base (Free n) = Unit {0}
IsRoomFor base (Made p) = Unit {0}
IsRoomFor base (Variable i) = base + (i - 1) < 2 ^ 32

abbrev pub HasRoomFrom : ℕ → Term → Type 0
HasRoomFrom base t = AllByRecursion (IsRoomFor base) (leaves t)

-- so of a whole rule
pub record IsShortRule (rule : Rule) : Type 0 where
  pub left : AllByRecursion HasShortTuples rule.left
  pub right : HasShortTuples rule.right

abbrev pub HasRoomForRule : ℕ → Rule → Type 0
HasRoomForRule base rule = AllByRecursion (IsRoomFor base) (rule_leaves rule)

-- the new variables of a pattern stay below 2^32
abbrev pub HasRoomAt : Fresh → Pattern → Type 0
HasRoomAt at p = AllByRecursion (λ i. at.base + (i - at.first) < 2 ^ 32) (bound_numbers p)
