-- What a load gives, and what an open file has left.
use Rattle.std.specs.Prelude.{◌≡◌, ℕ, List, ◌++◌, Option, Some, None, take}

-- these are the first bytes of what is held, at most so many of them; where that is not told, they may be any
abbrev pub HoldsFirst : ℕ → Option (List ℕ) → List ℕ → Type 0
HoldsFirst most None bytes = Unit {0}
HoldsFirst most (Some all) bytes = bytes ≡ take most all

-- what is held is what reads will give; where that is not told, they may give anything
abbrev pub WillGive : Option (List ℕ) → Option (List ℕ) → Type 0
WillGive None left = Unit {0}
WillGive (Some all) left = left ≡ Some all

-- a load that gave bytes: of which name, and which bytes
pub record Load : Type 0 where
  pub name : List ℕ
  pub bytes : List ℕ

-- the loads so far, and these after them; what is not told stays so
abbrev pub with_loads : Option (List Load) → List Load → Option (List Load)
with_loads None more = None
with_loads (Some before) more = Some (before ++ more)
