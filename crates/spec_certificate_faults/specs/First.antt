-- The first fault of some bytes, by its place and then by the number of its code.
use Rattle.std.specs.Prelude.{◌≡◌, ℕ, ◌+◌, ◌<◌, ◌≤◌, ◌⊎◌, Bool, true, false, List, [], ◌∷◌, ◌++◌, length}
use Rattle.spec_calculus.specs.Syntax.{Protocol}
use Rattle.spec_certificate_text.specs.Loose.{Loose, onto}
use Rattle.spec_certificate_text.specs.Terms.{Code, Syntax, Number, Symbol, Arity, Count, NodeOrder, NodeLarge}
use Rattle.spec_certificate_faults.specs.Grammar.{IsInGrammar, EndsBefore}
use Rattle.spec_certificate_faults.specs.TermFaults.{StandsInTerm}

-- which bytes are a text of a kind, whatever its words name, and then a rest; and which faults of the other codes stand where in bytes
pub record Kind : Type 1 where
  pub Text : (bytes rest : List ℕ) → Type 0
  pub Fault : (code : Code) → (bytes there : List ℕ) → Type 0

-- no text goes on behind these bytes with the first of those, or ends where there are none
abbrev pub NoneGoesOn : Kind → List ℕ → List ℕ → Type 0
NoneGoesOn K before [] = (rest : List ℕ) → K.Text before rest → ⊥
NoneGoesOn K before (b ∷ behind) = (other rest : List ℕ) → K.Text (before ++ b ∷ other) rest → ⊥

-- Syntax: some text goes on up to there, and none with the byte there, or with the end
pub record IsSyntax (K : Kind) (bytes there : List ℕ) : Type 0 where
  pub before : List ℕ
  pub text : bytes ≡ before ++ there
  pub other : List ℕ
  pub rest : List ℕ
  pub goes_on : K.Text (before ++ other) rest
  pub stops : NoneGoesOn K before there

-- a fault of the code stands there
abbrev pub IsFault : Kind → Code → List ℕ → List ℕ → Type 0
IsFault K Syntax bytes there = IsSyntax K bytes there
IsFault K Number bytes there = K.Fault Number bytes there
IsFault K Symbol bytes there = K.Fault Symbol bytes there
IsFault K Arity bytes there = K.Fault Arity bytes there
IsFault K Count bytes there = K.Fault Count bytes there
IsFault K NodeOrder bytes there = K.Fault NodeOrder bytes there
IsFault K NodeLarge bytes there = K.Fault NodeLarge bytes there

-- a fault of the code stands at the place of the bytes, the first of which has the other one
pub record StandsAt (K : Kind) (bytes : List ℕ) (at place : ℕ) (code : Code) : Type 0 where
  pub there : List ℕ
  pub is : IsFault K code bytes there
  pub counted : place + length there ≡ at + length bytes

-- the number of a code
abbrev pub code_number : Code → ℕ
code_number Syntax = 1
code_number Number = 2
code_number Symbol = 3
code_number Arity = 4
code_number Count = 5
code_number NodeOrder = 7
code_number NodeLarge = 8

-- it stands at an earlier place, or at the same and has no greater number
abbrev pub NotAfter : ℕ → Code → ℕ → Code → Type 0
NotAfter place code other another = (place < other) ⊎ ((place ≡ other) × (code_number code ≤ code_number another))

-- the first fault
pub record IsFirstFault (K : Kind) (bytes : List ℕ) (at place : ℕ) (code : Code) : Type 0 where
  pub stands : StandsAt K bytes at place code
  pub first : (other : ℕ) (another : Code) → StandsAt K bytes at other another → NotAfter place code other another

-- Terms.

-- the bytes are a tree of the grammar, and then the rest, which is one byte at least
pub record IsTermText (bytes rest : List ℕ) : Type 0 where
  pub tree : Loose
  pub is : IsInGrammar tree
  pub ends : EndsBefore tree rest
  pub next : ℕ
  pub later : List ℕ
  pub more : rest ≡ next ∷ later
  pub text : bytes ≡ onto tree rest

-- terms as they stand in constraints, or in facts
abbrev pub terms_in : Bool → Protocol → Kind
terms_in binds P = record { Text = IsTermText; Fault = StandsInTerm binds P }

-- terms of facts, and sides of constraints
abbrev pub terms : Protocol → Kind
terms P = terms_in false P

abbrev pub sides : Protocol → Kind
sides P = terms_in true P
