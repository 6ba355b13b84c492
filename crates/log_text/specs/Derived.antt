-- The derivation of an entry of a log, line by line.
use Rattle.std.specs.Prelude.{◌≡◌, ◌⊎◌, ℕ, Bool, true, false, nat_eq, Option, None, Some, List, [], ◌∷◌, ◌++◌, map}
use Rattle.std.specs.List.{AllByRecursion, list_any}
use Rattle.spec_calculus.specs.Points.{numbered}
use Rattle.spec_saturation.specs.Key.{Entry}
use Rattle.log_entries.specs.declared.log.Origin.{Origin}
use Rattle.log_entries.specs.declared.log.Origin.TheVariants.{Resolvent}
use Rattle.log_entries.specs.Logs.{IsOrigin}
use Rattle.log_text.specs.declared.tree.Part.{Part}
use Rattle.log_text.specs.declared.tree.Part.TheVariants.{Told, Before}
use Rattle.log_text.specs.declared.tree.Line.{Line}
use Rattle.log_text.specs.declared.tree.Derivation.{Derivation}

-- whether the line is of that entry
abbrev pub is_of : ℕ → Line → Bool
is_of number line = nat_eq line.entry number

-- The entry comes from there: it is that given clause, which is a leaf, or that resolvent of those two entries, which is a node.
pub record ComesFrom (log : List Entry) (number : ℕ) (origin : Origin) : Type 0 where
  pub entry : Entry
  pub at : numbered log number ≡ Some entry
  pub from : IsOrigin log origin entry.key

-- What is told of an entry behind these lines: where it comes from the first time, and from then on that it was told.
abbrev pub IsPart : List Entry → List Line → ℕ → Part → Type 0
IsPart log lines number (Told origin) = (list_any (is_of number) lines ≡ false) × ComesFrom log number origin
IsPart log lines number Before = list_any (is_of number) lines ≡ true

-- the entries that are due behind a line, the next one last: of a resolvent the solved one, and then the other
abbrev pub behind : Part → List ℕ
behind (Told (Resolvent k solved unsolved)) = unsolved ∷ solved ∷ []
behind other = []

-- The lines tell the derivation of the entry of that number, up to the entries that are left, of which the last is told next.
pub data Derives (log : List Entry) (number : ℕ) : List Line → List ℕ → Type 0 where
  begins : Derives log number [] (number ∷ [])
  goes_on : (lines : List Line) (rest : List ℕ) (next : ℕ) (part : Part) → Derives log number lines (rest ++ next ∷ []) → IsPart log lines next part
      → Derives log number (lines ++ record { entry = next; part = part } ∷ []) (rest ++ behind part)

-- what is told next of an entry, if it is in the log
abbrev pub IsLineIn : List Entry → List Line → ℕ → Option Part → Type 0
IsLineIn log lines number None = Unit {0}
IsLineIn log lines number (Some part) = IsPart log lines number part

-- one more line was told
pub record GoesBehind (before after : Derivation) (entry : ℕ) (part : Part) : Type 0 where
  pub lines : after.lines.items ≡ before.lines.items ++ record { entry = entry; part = part } ∷ []
  pub rest : after.rest.items ≡ before.rest.items ++ behind part

-- the number is one of these
abbrev pub IsAmong : List ℕ → ℕ → Type 0
IsAmong [] n = ⊥
IsAmong (m ∷ ms) n = (n ≡ m) ⊎ IsAmong ms n

-- the entries that the lines tell
abbrev pub entries_of : List Line → List ℕ
entries_of lines = map (λ line. line.entry) lines

-- the entries that an entry is a resolvent of are among these
abbrev pub HasParents : List ℕ → Line → Type 0
HasParents all line = AllByRecursion (IsAmong all) (behind line.part)

-- A derivation that is told whole begins with its entry, and has with each resolvent the two entries that it is of.
pub record IsWhole (number : ℕ) (lines : List Line) : Type 0 where
  pub first : IsAmong (entries_of lines) number
  pub parents : AllByRecursion (HasParents (entries_of lines)) lines
