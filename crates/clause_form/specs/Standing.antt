-- Tables that tell which numbers stand in a list, as far as they have places: place x is for the number x.
use Rattle.std.specs.Prelude.{◌≡◌, ℕ, ◌<◌, Bool, true, false, cond, nat_eq, nat_lt, length, List, [], ◌∷◌, slice_index_or, slice_set}
use Rattle.std.specs.List.{list_any}
use Rattle.spec_terms.specs.Term.{Term}
use Rattle.spec_clauses.specs.Fact.{Fact, is_variable_known}
use Rattle.spec_clauses.specs.Variables.{fact_variables}

-- a table with one number noted, and with those of a list
abbrev pub noted_one : List Bool → ℕ → List Bool
noted_one table x = cond (nat_lt x (length table)) (slice_set table x true) table

abbrev pub noted : List Bool → List ℕ → List Bool
noted table [] = table
noted table (x ∷ xs) = noted (noted_one table x) xs

-- the table tells of each number that has a place whether it stands in a list
abbrev pub TellsNumbers : List Bool → List ℕ → Type 0
TellsNumbers table numbers = (x : ℕ) → x < length table → slice_index_or table x false ≡ list_any (nat_eq x) numbers

-- the variables of a hypothesis, none of `att` of a variable
abbrev pub firm_numbers : Fact Term → List ℕ
firm_numbers h = cond (is_variable_known h) [] (fact_variables h)
