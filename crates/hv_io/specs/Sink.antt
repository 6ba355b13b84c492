-- What a write leaves.
use Rattle.std.specs.Prelude.{◌≡◌, ℕ, ◌<◌, List, ◌++◌, length, Option, Some, None, take}

-- what was written, with these bytes after it; what is not told stays so
abbrev pub appended : Option (List ℕ) → List ℕ → Option (List ℕ)
appended None bytes = None
appended (Some before) bytes = Some (before ++ bytes)

-- some of the bytes, from their start, were appended, and not all
abbrev pub AppendsPart : Option (List ℕ) → Option (List ℕ) → List ℕ → Type 0
AppendsPart before after bytes = (n : ℕ) × (n < length bytes) × (after ≡ appended before (take n bytes))
