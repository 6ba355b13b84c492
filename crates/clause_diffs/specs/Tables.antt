-- Tables that tell where numbers stand in a list, and how often.
use Rattle.std.specs.Prelude.{◌≡◌, ℕ, ◌<◌, nat_eq, Option, Some, None, List}
use Rattle.std.specs.HashMap.{HashMap, get}
use Rattle.std.specs.declared.hash.BuildHasherDefault.{BuildHasherDefault}
use Rattle.std.specs.declared.hash.FoldHasher.{FoldHasher}
use Rattle.spec_clauses.specs.FirstPhase.{times}
use Rattle.spec_clauses.specs.Norm.{place_of}

-- what the table tells is the place of a number
abbrev pub FindsPlaces : List ℕ → HashMap ℕ ℕ (BuildHasherDefault FoldHasher) → Type 0
FindsPlaces numbers table = (x p : ℕ) → get nat_eq table x ≡ Some p → p ≡ place_of x numbers

-- the place of each number of 32 bits is one
abbrev pub HasPlaces : List ℕ → Type 0
HasPlaces numbers = (x : ℕ) → x < 4294967296 → place_of x numbers < 4294967296

-- a number that the table does not have occurs never
abbrev pub count_of : Option ℕ → ℕ
count_of None = 0
count_of (Some n) = n

-- the table tells how often each number occurs
abbrev pub CountsTimes : List ℕ → HashMap ℕ ℕ (BuildHasherDefault FoldHasher) → Type 0
CountsTimes numbers table = (x : ℕ) → count_of (get nat_eq table x) ≡ times x numbers
