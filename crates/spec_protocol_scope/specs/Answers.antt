-- What the rules of scope answer: a value, or a fault with the number of the token where it stands.
use Rattle.std.specs.Prelude.{ℕ, Bool, if◌then◌else◌, Result, Ok, Err}

-- why the rules of scope refuse a file
pub data Code : Type 0 where
  -- a name that is not declared, or not yet
  Unknown : Code
  -- a name that is declared or bound twice
  Twice : Code
  -- a wrong number of arguments
  Arity : Code
  -- a name of another kind than is wanted
  Kind : Code
  -- a variable on the right of a rule that does not stand on its left
  LooseVariable : Code
  -- a limit is passed
  TooMany : Code
  -- a query for the name of one of several restrictions
  AmbiguousNew : Code
  -- a phase that is not later than the one in force, or in a query one past the greatest
  PhaseOrder : Code

-- a fault, and the number of its token, from 0
pub record Fault : Type 0 where
  pub code : Code
  pub token : ℕ

-- a value, or the first fault
abbrev pub Answer : Type 0 → Type 0
Answer A = Result A Fault

-- this fault at this token
abbrev pub fault : {A : Type 0} → Code → ℕ → Answer A
fault code token = Err (record { code = code; token = token })

-- one step after another: the first fault is answered
infixl 10 ◌>>=◌
abbrev pub ◌>>=◌ : {A B : Type 0} → Answer A → (A → Answer B) → Answer B
◌>>=◌ (Ok x) next = next x
◌>>=◌ (Err found) next = Err found

-- the value, where the limits of what begins at this token are kept
abbrev pub within : {A : Type 0} → Bool → ℕ → A → Answer A
within kept token value = if kept then Ok value else fault TooMany token
