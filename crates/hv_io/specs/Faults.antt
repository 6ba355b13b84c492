-- Counts of faults.
use Rattle.std.specs.Prelude.{◌≡◌, ℕ, ◌-◌, ◌^◌, ◌<◌, ◌⊎◌}

-- a fault was counted: the count rose, or it stands at the greatest number of 64 bits, where it can rise no more
abbrev pub IsFaultCounted : ℕ → ℕ → Type 0
IsFaultCounted before after = (before < after) ⊎ (after ≡ 2 ^ 64 - 1)
