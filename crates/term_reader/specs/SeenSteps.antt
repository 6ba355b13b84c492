-- What contracts see of steps, and of what was read.
use Rattle.std.specs.Prelude.{◌≡◌, ℕ, ◌≤◌, List, [], ◌∷◌, drop}
use Rattle.clause_form.specs.Plain.{term_of}
use Rattle.spec_certificate_text.specs.Terms as terms
use Rattle.spec_certificate_text.specs.Runs as runs
use Rattle.term_reader.specs.declared.state.Code.{Code}
use Rattle.term_reader.specs.declared.state.Code.TheVariants.{Syntax, Number, Symbol, Arity, Count}
use Rattle.term_reader.specs.declared.state.Step.{Step}
use Rattle.term_reader.specs.declared.state.Step.TheVariants.{Goes, Ends, Fault}
use Rattle.term_reader.specs.declared.state.Popped.{Popped}
use Rattle.term_reader.specs.declared.state.Popped.TheVariants.{Empty, Top}
use Rattle.term_reader.specs.declared.reading.Read.{Read}
use Rattle.term_reader.specs.declared.reading.Read.TheVariants.{Done, Refused}
use Rattle.term_reader.specs.Seen.{open_of, heads_of, reading_of}

abbrev pub code_of : Code → terms.Code
code_of Syntax = terms.Syntax
code_of Number = terms.Number
code_of Symbol = terms.Symbol
code_of Arity = terms.Arity
code_of Count = terms.Count

abbrev pub step_of : Step → terms.Step
step_of (Goes r) = terms.Goes (reading_of r)
step_of (Ends t) = terms.Ends (term_of t)
step_of (Fault place code) = terms.Fault place (code_of code)

-- the innermost of the heads, and the others
abbrev pub IsPopped : List terms.Open → Popped → Type 0
IsPopped heads (Empty h) = (heads ≡ []) × (heads_of h ≡ [])
IsPopped heads (Top o h) = heads ≡ open_of o ∷ heads_of h

-- what was read of these bytes; what is left of them begins at the place
abbrev pub read_of : List ℕ → Read → runs.Read
read_of bytes (Done t place) = runs.Done (term_of t) place (drop place bytes)
read_of bytes (Refused place code) = runs.Refused place (code_of code)

-- what was read ends within so many bytes
abbrev pub EndsWithin : ℕ → Read → Type 0
EndsWithin size (Done t place) = place ≤ size
EndsWithin size (Refused place code) = Unit {0}
