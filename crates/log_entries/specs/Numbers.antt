-- Numbers of entries in lists, and which of them are of live ones.
use Rattle.std.specs.Prelude.{◌≡◌, ◌⊎◌, ℕ, suc, ◌<◌, ◌≤◌, Bool, false, Option, Some, None, List, [], ◌∷◌}
use Rattle.spec_calculus.specs.Points.{numbered}
use Rattle.log_entries.specs.declared.log.Entry.{Entry}
use Rattle.log_entries.specs.Logs.{is_unbeaten}

-- the number stands in the list
abbrev pub IsAmong : List ℕ → ℕ → Type 0
IsAmong [] number = ⊥
IsAmong (n ∷ ns) number = (n ≡ number) ⊎ IsAmong ns number

-- each number is greater than the one before it, and the first no less than `least`
abbrev pub IsAscending : ℕ → List ℕ → Type 0
IsAscending least [] = Unit {0}
IsAscending least (n ∷ ns) = (least ≤ n) × IsAscending (suc n) ns

-- they ascend, and each is the number of one of so many
pub record AreNumbersWithin (count : ℕ) (numbers : List ℕ) : Type 0 where
  pub ascend : IsAscending 1 numbers
  pub within : (number : ℕ) → IsAmong numbers number → (0 < number) × (number ≤ count)

-- whether there is an entry, and it is live
abbrev pub is_live_entry : Option Entry → Bool
is_live_entry None = false
is_live_entry (Some entry) = is_unbeaten entry.by

abbrev pub is_live_at : List Entry → ℕ → Bool
is_live_at entries number = is_live_entry (numbered entries number)
