-- Reading a term from some bytes.
use Rattle.std.specs.Prelude.{ℕ, ◌+◌, if◌then◌else◌, Bool, false, List, [], ◌∷◌}
use Rattle.spec_calculus.specs.Syntax.{Protocol}
use Rattle.spec_terms.specs.Term.{Term}
use Rattle.spec_certificate_text.specs.Terms.{Code, Syntax, Count, Open, Mode, Begins, InWord, InDigits, AtBracket, InBound, Ended, Reading, Step, Goes, Ends, Fault}
use Rattle.spec_certificate_text.specs.Steps.{is_deep, step}

-- what came of reading bytes: a term, with the place behind it and what stands from there on; or a refusal
pub data Read : Type 0 where
  Done : (term : Term) → (place : ℕ) → (rest : List ℕ) → Read
  Refused : (place : ℕ) → (code : Code) → Read

-- what came of a step at this place
abbrev pub followed : (Reading → Read) → ℕ → List ℕ → Step → Read
followed next at bytes (Goes r) = next r
followed next at bytes (Ends t) = Done t at bytes
followed next at bytes (Fault place code) = Refused place code

-- the bytes end at the place, within a term that began at the other: if it is too deep, this is a fault where it began
abbrev pub cut_off : ℕ → List Open → ℕ → Read
cut_off at heads from = if is_deep heads then Refused from Count else Refused at Syntax

-- the bytes end at the place before a term begins, within the arguments of the innermost symbol, if any
abbrev pub cut_before : ℕ → List Open → Read
cut_before at [] = Refused at Syntax
cut_before at (o ∷ heads) = cut_off at heads o.place

-- the bytes end at the place, where no term can end: no word and no number has ended there, and none is looked up
abbrev pub at_end : ℕ → List Open → ℕ → Mode → Read
at_end at heads from Begins = cut_before at heads
at_end at heads from (InWord word) = cut_off at heads from
at_end at heads from (InDigits word digits) = cut_off at heads from
at_end at heads from AtBracket = cut_off at heads from
at_end at heads from (InBound digits) = cut_off at heads from
at_end at heads from (Ended t) = cut_off at heads from

-- reading goes on from this place, in a constraint or in a fact
abbrev pub read_on : Bool → Protocol → List ℕ → ℕ → Reading → Read
read_on binds P [] at r = at_end at r.heads r.from r.mode
read_on binds P (b ∷ bytes) at r = followed (read_on binds P bytes (at + 1)) at (b ∷ bytes) (step binds P at r b)

-- the term, or side of a constraint, that the bytes begin with, the first of which stands at the place: another byte has to stand behind it
abbrev pub read_tree : Bool → Protocol → List ℕ → ℕ → Read
read_tree binds P bytes at = read_on binds P bytes at record { heads = []; mode = Begins; from = at }

-- a term of a fact
abbrev pub read_term : Protocol → List ℕ → ℕ → Read
read_term P bytes at = read_tree false P bytes at
