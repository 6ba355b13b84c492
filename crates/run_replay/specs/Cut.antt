-- Bytes cut at a separator.
use Rattle.std.specs.Prelude.{ℕ, if◌then◌else◌, Bool, List, [], ◌∷◌, Option, Some, None}
use Rattle.spec_run_text.specs.Lines.{fields}

-- what stands behind the first byte that passes the test, if one does
abbrev pub behind_first : (ℕ → Bool) → List ℕ → Option (List ℕ)
behind_first test [] = None
behind_first test (b ∷ bytes) = if test b then Some bytes else behind_first test bytes

-- the fields of a line that goes on behind a space, if it does
abbrev pub fields_of : Option (List ℕ) → List (List ℕ)
fields_of None = []
fields_of (Some bytes) = fields bytes
