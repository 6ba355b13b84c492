-- Tables: entries, and which of them a `get` takes (Blanchet, Smyth, Cheval and Sylvestre, the manual of ProVerif: tables).
use Rattle.std.specs.Prelude.{ℕ, Bool, true, nat_eq, List, [], ◌∷◌, ◌++◌, cond, Option, None, Some, option_and_then}
use Rattle.spec_trees.specs.Tree.{Node, trees}
use Rattle.spec_calculus.specs.Syntax.{Tuple, Term, Pattern, Condition}
use Rattle.spec_calculus.specs.Values.{Value, Environment, same_value, value_of}
use Rattle.spec_calculus.specs.Matching.{matched}

-- an entry of the table of that number
pub record Held : Type 0 where
  pub table : ℕ
  pub arguments : List Value

-- patterns in a row are one pattern: that of their tuple
abbrev pub row_pattern : List Pattern → Pattern
row_pattern patterns = Node Tuple (trees patterns)

-- values in a row are one value: their tuple
abbrev pub row_value : List Value → Value
row_value vs = Node Tuple (trees vs)

-- the two terms of a condition
abbrev pub sides : Condition → List Term
sides None = []
sides (Some (left, right)) = left ∷ right ∷ []

-- whether the condition's terms have equal values
abbrev pub meets : Environment → Condition → Bool
meets environment None = true
meets environment (Some (left, right)) = same_value (value_of environment left) (value_of environment right)

-- the bindings, where the condition is met with them
abbrev pub if_met : Environment → Condition → Environment → Option Environment
if_met environment condition bindings = cond (meets (environment ++ bindings) condition) (Some bindings) None

-- what the patterns bind of an entry, where it is of the table and they match its values
abbrev pub row_matched : Environment → ℕ → List Pattern → Held → Option Environment
row_matched environment table patterns held =
    cond (nat_eq held.table table) (matched environment (row_pattern patterns) (row_value held.arguments)) None

-- what a `get` binds of an entry that it may take
abbrev pub matched_entry : Environment → ℕ → List Pattern → Condition → Held → Option Environment
matched_entry environment table patterns condition held =
    option_and_then (if_met environment condition) (row_matched environment table patterns held)
