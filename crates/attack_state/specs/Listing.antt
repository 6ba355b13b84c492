-- Numbers that are listed by classes: of each class those of all items in it, in order.
use Rattle.std.specs.Prelude.{◌≡◌, ℕ, Bool, false, nat_eq, cond, List, Option, Some, None, slice_get, filter_map}
use Rattle.std.specs.List.{enumerate_from}
use Rattle.std.specs.Option.{option_map_or}
use Rattle.fact_classes.specs.declared.classes.Classes.{Classes}
use Rattle.fact_classes.specs.Classes.{listed}

-- the number of an item, if the item is in the class
abbrev pub number_in : {A : Type 0} → (A → ℕ) → ℕ → ℕ × A → Option ℕ
number_in class_of class (number, item) = cond (nat_eq (class_of item) class) (Some number) None

-- the numbers of the items in the class, from 0
abbrev pub numbers_in : {A : Type 0} → (A → ℕ) → ℕ → List A → List ℕ
numbers_in class_of class items = filter_map (number_in class_of class) (enumerate_from 0 items)

abbrev pub AreListed : {A : Type 0} → (A → ℕ) → List A → Classes → Type 0
AreListed class_of items classes = (class : ℕ) → listed classes (Some class) ≡ numbers_in class_of class items

-- whether the item of that number, from 0, passes the test; none does where there is no item
abbrev pub passes_at : {A : Type 0} → (A → Bool) → List A → ℕ → Bool
passes_at test items number = option_map_or test (slice_get items number) false
