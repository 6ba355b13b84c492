-- What loose trees of the grammar are: their words, their digits, and what may stand behind a word alone.
use Rattle.std.specs.Prelude.{◌≡◌, ℕ, ◌≤◌, ◌⊎◌, ◌==◌, ◌||◌, Bool, true, false, List, [], ◌∷◌, length}
use Rattle.std.specs.Char.{is_ascii_digit}
use Rattle.std.specs.List.{list_all}
use Rattle.spec_trees.specs.Tree.{Leaf, Node, none, more}
use Rattle.spec_protocol_tokens.specs.Bytes.{is_in_word}
use Rattle.spec_protocol_scope.specs.Words.{begins_as_word}
use Rattle.spec_certificate_text.specs.Loose.{Head, Applied, Tupled, Made, Attackers, Loose, LooseRow}

-- a letter or `_`, and then letters, digits, `_` and `'`
pub record IsWord (word : List ℕ) : Type 0 where
  pub begins : begins_as_word word ≡ true
  pub goes_on : list_all is_in_word word ≡ true

abbrev pub AreDigits : List ℕ → Type 0
AreDigits digits = list_all is_ascii_digit digits ≡ true

-- `?` and digits, one at least: a bound variable's
pub record IsBoundWord (word : List ℕ) : Type 0 where
  pub digits : List ℕ
  pub some : 1 ≤ length digits
  pub all : AreDigits digits
  pub is : word ≡ 63 ∷ digits

abbrev pub IsHead : Head → Type 0
IsHead (Applied word) = IsWord word
IsHead Tupled = Unit {0}
IsHead (Made word digits) = IsWord word × AreDigits digits
IsHead Attackers = Unit {0}

-- its words are words, of bound variables or others, and its digits digits
abbrev mutual
  pub IsLoose : Loose → Type 0
  IsLoose (Leaf word) = IsWord word ⊎ IsBoundWord word
  IsLoose (Node head arguments) = IsHead head × AreLoose arguments

  pub AreLoose : LooseRow → Type 0
  AreLoose none = Unit {0}
  AreLoose (more t ts) = IsLoose t × AreLoose ts

-- these bytes don't go on with what passes the test
abbrev pub Stops : (ℕ → Bool) → List ℕ → Type 0
Stops passes [] = Unit {0}
Stops passes (b ∷ bytes) = passes b ≡ false

-- a word could go on with the byte, or be more than a word alone: a byte of a word, `(` or `@`
abbrev pub goes_on : ℕ → Bool
goes_on b = is_in_word b || (b == 40) || (b == 64)

-- behind these bytes a tree ends: a word alone is followed by nothing that it could go on with
abbrev pub EndsBehind : Loose → List ℕ → Type 0
EndsBehind (Leaf word) rest = Stops goes_on rest
EndsBehind (Node head arguments) rest = Unit {0}
