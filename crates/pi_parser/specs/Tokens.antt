-- Tokens that stand within the bytes.
use Rattle.std.specs.Prelude.{ℕ, ◌≤◌, List, [], ◌∷◌}
use Rattle.spec_protocol_tokens.specs.Token.{Token}

-- each ends where it begins or later, and within so many bytes
abbrev pub AreWithin : ℕ → List Token → Type 0
AreWithin size [] = Unit {0}
AreWithin size (t ∷ ts) = (t.from ≤ t.to) × (t.to ≤ size) × AreWithin size ts
