-- The lines of a text, and the fields of a line.
use Rattle.std.specs.Prelude.{ℕ, ◌==◌, if◌then◌else◌, List, [], ◌∷◌}

-- the byte stands at the front of the first of these pieces
abbrev pub onto_first : ℕ → List (List ℕ) → List (List ℕ)
onto_first b [] = (b ∷ []) ∷ []
onto_first b (piece ∷ pieces) = (b ∷ piece) ∷ pieces

-- the lines of a text: a line feed ends each, which the last may lack
abbrev pub lines : List ℕ → List (List ℕ)
lines [] = []
lines (b ∷ bytes) = if b == 10 then [] ∷ lines bytes else onto_first b (lines bytes)

-- the fields of a line: a space stands between each two
abbrev pub fields : List ℕ → List (List ℕ)
fields [] = [] ∷ []
fields (b ∷ bytes) = if b == 32 then [] ∷ fields bytes else onto_first b (fields bytes)
