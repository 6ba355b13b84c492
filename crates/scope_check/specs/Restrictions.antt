-- The restrictions of one name that were seen.
use Rattle.std.specs.Prelude.{ℕ, List, [], ◌∷◌}
use Rattle.scope_check.specs.declared.queries.Seen.{Seen}
use Rattle.scope_check.specs.declared.queries.Seen.TheVariants.{Nowhere, Once, Often}

-- what is kept of the points of these restrictions
abbrev pub summary : List ℕ → Seen
summary [] = Nowhere
summary (point ∷ []) = Once point
summary (point ∷ further ∷ points) = Often
