-- The trees of the grammar, whatever their words name, and where in some bytes a term may begin.
use Rattle.std.specs.Prelude.{◌≡◌, ℕ, suc, ◌≤◌, ◌⊎◌, Bool, false, List, [], ◌∷◌, length}
use Rattle.std.specs.List.{AllByRecursion}
use Rattle.spec_trees.specs.Tree.{Leaf, Node, none, more, items_of}
use Rattle.spec_certificate_text.specs.Loose.{Head, Applied, Tupled, Made, Attackers, Loose, LooseRow, opening, onto}
use Rattle.spec_certificate_text.specs.Spelled.{IsWord, AreDigits, IsBoundWord, goes_on}

-- the word of a head is a word, and its digits are digits, one at least
abbrev pub IsWritten : Head → Type 0
IsWritten (Applied word) = IsWord word
IsWritten Tupled = Unit {0}
IsWritten (Made word digits) = IsWord word × AreDigits digits × (1 ≤ length digits)
IsWritten Attackers = Unit {0}

-- so many arguments may stand behind it: a word over arguments has one at least, a tuple two, an attacker's name exactly one
abbrev pub MayHave : Head → ℕ → Type 0
MayHave (Applied word) n = 1 ≤ n
MayHave Tupled n = 2 ≤ n
MayHave (Made word digits) n = Unit {0}
MayHave Attackers n = n ≡ 1

-- a tree of the grammar
abbrev mutual
  pub IsInGrammar : Loose → Type 0
  IsInGrammar (Leaf word) = IsWord word ⊎ IsBoundWord word
  IsInGrammar (Node head arguments) = IsWritten head × MayHave head (length (items_of arguments)) × AreInGrammar arguments

  pub AreInGrammar : LooseRow → Type 0
  AreInGrammar none = Unit {0}
  AreInGrammar (more t ts) = IsInGrammar t × AreInGrammar ts

-- a byte stands there, and it does not pass the test
abbrev pub EndsAt : (ℕ → Bool) → List ℕ → Type 0
EndsAt passes [] = ⊥
EndsAt passes (b ∷ bytes) = passes b ≡ false

-- before these bytes the tree ends: a word alone, where a byte follows with which it could not go on
abbrev pub EndsBefore : Loose → List ℕ → Type 0
EndsBefore (Leaf word) behind = EndsAt goes_on behind
EndsBefore (Node head arguments) behind = Unit {0}

-- Where a term may begin.

-- trees, a comma behind each, and then the rest
abbrev pub with_commas : List Loose → List ℕ → List ℕ
with_commas [] rest = rest
with_commas (t ∷ ts) rest = onto t (44 ∷ with_commas ts rest)

-- behind so many arguments and their commas a further one may stand: an attacker's name has no comma
abbrev pub MayGoOn : Head → List Loose → Type 0
MayGoOn (Applied word) ts = Unit {0}
MayGoOn Tupled ts = Unit {0}
MayGoOn (Made word digits) ts = Unit {0}
MayGoOn Attackers ts = ts ≡ []

-- the bytes are a head, arguments with their commas, and then these
pub record IsOpen (head : Head) (ts : List Loose) (bytes inner : List ℕ) : Type 0 where
  pub written : IsWritten head
  pub each : AllByRecursion IsInGrammar ts
  pub may : MayGoOn head ts
  pub text : bytes ≡ opening head (with_commas ts inner)

-- in the bytes, which a term begins, one of this level may begin before these: before all, or among the arguments of another
pub data MayBegin (bytes : List ℕ) : ℕ → List ℕ → Type 0 where
  whole : MayBegin bytes 1 bytes
  within : {level : ℕ} {here : List ℕ} → MayBegin bytes level here → (head : Head) → (ts : List Loose) → (inner : List ℕ) → IsOpen head ts here inner → MayBegin bytes (suc level) inner
