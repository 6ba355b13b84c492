-- What a `get` asks of an entry.
use Rattle.std.specs.Prelude.{◌≡◌, ℕ, ◌⊎◌, List, ◌++◌, slice_get, Option, Some}
use Rattle.spec_trees.specs.Tree.{Leaf}
use Rattle.spec_calculus.specs.Syntax.{Term, Equal}
use Rattle.spec_calculus.specs.Values.{Value, Environment, value_of, values_of}
use Rattle.spec_calculus.specs.Matching.{matched}
use Rattle.spec_calculus.specs.Tables.{row_pattern, sides}
use Rattle.pi_tree.specs.Processes.{condition_of}
use Rattle.held_entries.specs.declared.wanted.Wanted.{Wanted}
use Rattle.held_entries.specs.Keys.{table_class, class_at}

-- what the patterns bind of a row of values
abbrev pub bound_of_row : Wanted → Value → Option Environment
bound_of_row wanted row = matched wanted.environment.now (row_pattern wanted.patterns.now) row

-- the values of the condition's terms with what is bound
abbrev pub sides_with : Wanted → Environment → List Value
sides_with wanted bindings = values_of (wanted.environment.now ++ bindings) (sides (condition_of wanted.condition.now))

-- the pattern of the column is a term, and the class that of its value there
pub record IsColumnClass (wanted : Wanted) (table class : ℕ) : Type 0 where
  pub column : ℕ
  pub term : Term
  pub compared : slice_get wanted.patterns.now column ≡ Some (Leaf (Equal term))
  pub is_class : class ≡ class_at table column (value_of wanted.environment.now term)

-- the class is that of the table, or of a column that is compared
abbrev pub IsClassOf : Wanted → ℕ → ℕ → Type 0
IsClassOf wanted table class = (class ≡ table_class table) ⊎ IsColumnClass wanted table class
