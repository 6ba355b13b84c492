-- The least number above numbers.
use Rattle.std.specs.Prelude.{ℕ, ◌+◌, max, List, [], ◌∷◌}

abbrev pub above : List ℕ → ℕ
above [] = 0
above (x ∷ xs) = max (x + 1) (above xs)
