-- What a measure tells: a size from 1 on, and whether a tree has no variable.
use Rattle.std.specs.Prelude.{ℕ, ◌+◌, ◌/◌, ◌%◌, Bool, ◌==◌}
use Rattle.term_store.specs.declared.measure.Measure.{Measure}

-- the size, and whether there is no variable
abbrev pub tells_of : Measure → ℕ × Bool
tells_of m = (m.word / 2 + 1, m.word % 2 == 1)
