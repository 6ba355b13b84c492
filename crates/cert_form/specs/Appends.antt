-- Texts that were put at the end of bytes.
use Rattle.std.specs.Prelude.{◌≡◌, ℕ, List, ◌++◌}

-- the text was put behind the earlier bytes: whatever follows, the later bytes and then the rest are the earlier ones and then the text
-- with that rest
pub record Appends (text : List ℕ → List ℕ) (before after : List ℕ) : Type 0 where
  pub is : (rest : List ℕ) → after ++ rest ≡ before ++ text rest
