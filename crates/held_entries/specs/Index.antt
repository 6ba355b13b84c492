-- Which entries are found by their table, and by what stands in a column.
use Rattle.std.specs.Prelude.{◌≡◌, ℕ, Bool, true, false, nat_eq, List, slice_get, Option, None, Some, is_some}
use Rattle.std.specs.List.{list_any}
use Rattle.std.specs.Option.{option_map_or}
use Rattle.spec_calculus.specs.Limits.{is_large}
use Rattle.spec_calculus.specs.Syntax.{Pattern}
use Rattle.spec_calculus.specs.Tables as calculus
use Rattle.spec_calculus.specs.Tables.{row_matched}
use Rattle.spec_calculus.specs.Values.{Value, Environment}
use Rattle.fact_classes.specs.declared.classes.Classes.{Classes}
use Rattle.fact_classes.specs.Classes.{listed}
use Rattle.held_entries.specs.declared.entries.Question.{Question}
use Rattle.held_entries.specs.declared.entries.Question.TheVariants.{IsTaken, HasLarge}
use Rattle.held_entries.specs.declared.wanted.Wanted.{Wanted}
use Rattle.held_entries.specs.Entries.{taken_by, asked_by}
use Rattle.held_entries.specs.Keys.{table_class, class_at}

-- whether the number stands in the list
abbrev pub is_among : List ℕ → ℕ → Bool
is_among numbers n = list_any (λ k. nat_eq k n) numbers

-- whether it stands in that of the class
abbrev pub is_listed : Classes → ℕ → ℕ → Bool
is_listed classes class n = is_among (listed classes (Some class)) n

-- each class has what it had
abbrev pub HasAll : Classes → Classes → Type 0
HasAll old new = (class n : ℕ) → is_listed old class n ≡ true → is_listed new class n ≡ true

-- the entry is listed by that number, with its table and with each of its columns
pub record IsListed (classes : Classes) (held : calculus.Held) (n : ℕ) : Type 0 where
  pub table : is_listed classes (table_class held.table) n ≡ true
  pub columns : (column : ℕ) (v : Value) → slice_get held.arguments column ≡ Some v → is_listed classes (class_at held.table column v) n ≡ true

-- each entry is listed by its index; where there are no classes, none has to be
abbrev pub IsIndexOf : Option Classes → List calculus.Held → Type 0
IsIndexOf None entries = Unit {0}
IsIndexOf (Some classes) entries = (index : ℕ) (held : calculus.Held) → slice_get entries index ≡ Some held → IsListed classes held index

-- the numbers are those of all entries of the table that match the patterns, and of others
abbrev pub AreCandidates : Environment → ℕ → List Pattern → List calculus.Held → List ℕ → Type 0
AreCandidates s table patterns entries numbers =
    (index : ℕ) (held : calculus.Held) → slice_get entries index ≡ Some held → is_some (row_matched s table patterns held) ≡ true → is_among numbers index ≡ true

-- what is asked of an entry: whether it may be taken, or whether one of the condition's values is large with it
abbrev pub answer_of : Wanted → ℕ → Question → calculus.Held → Bool
answer_of wanted table IsTaken held = is_some (taken_by wanted table held)
answer_of wanted table HasLarge held = list_any is_large (asked_by wanted table held)

-- the answer of the entry at an index; no where there is none
abbrev pub answer_at : Wanted → ℕ → Question → List calculus.Held → ℕ → Bool
answer_at wanted table question entries = λ index. option_map_or (answer_of wanted table question) (slice_get entries index) false
