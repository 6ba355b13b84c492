-- The kind of reports, as the grammar has them.
use Rattle.std.specs.Prelude.{◌≡◌, ◌≢◌, ℕ, zero, suc, ◌+◌, ◌==◌, false, List, [], length, codes}
use Rattle.std.specs.Char.{is_ascii_digit}
use Rattle.std.specs.Fmt.{decimal}
use Rattle.spec_calculus.specs.Syntax.{Protocol}
use Rattle.spec_certificate_text.specs.OfProtocol.{IsShort}
use Rattle.spec_certificate_text.specs.Terms.{Code, Count}
use Rattle.spec_certificate_text.specs.Outcomes.{front}
use Rattle.spec_certificate_text.specs.ReportText.{in_line}
use Rattle.spec_certificate_faults.specs.Grammar.{EndsAt}
use Rattle.spec_certificate_faults.specs.First.{Kind}
use Rattle.spec_first_faults.specs.Kinds.{fixed, IsRun, runs, nothing_before, behind, one_of, marked, many}
use Rattle.spec_first_faults.specs.Numbers.{numbers}
use Rattle.spec_first_faults.specs.Clauses.{certificates}

-- What is claimed of a query.

-- a reason, or a step: some bytes, one at least, and the end of their line
abbrev pub reasons : Kind
reasons = behind (runs in_line in_line) (fixed (codes "\n"))

-- a step behind `s `
abbrev pub step_lines : Kind
step_lines = behind (fixed (codes "s ")) reasons

-- the steps of a run, of which there may be none, and `end`
abbrev pub run_lines : Kind
run_lines = many step_lines (fixed (codes "end\n"))

-- no certificate begins
abbrev pub BeginsNone : List ℕ → Type 0
BeginsNone bytes = (front bytes == 99) ≡ false

-- Where this is the kind of certificates.

-- a certificate or none
abbrev pub proofs_with : Kind → Kind
proofs_with K = one_of K (nothing_before BeginsNone)

abbrev pub verdicts_with : Kind → Kind
verdicts_with K =
    one_of (behind (fixed (codes " unknown ")) reasons)
    (one_of (behind (fixed (codes " attack\n")) run_lines) (behind (fixed (codes " proved\n")) (proofs_with K)))

-- Count: the number of another query than the next
pub record IsOtherQuery (next : ℕ) (bytes : List ℕ) : Type 0 where
  pub rest : List ℕ
  pub digits : IsRun is_ascii_digit is_ascii_digit bytes rest
  pub query : ℕ
  pub short : IsShort query
  pub is : digits.run ≡ decimal query
  pub other : query ≢ next

abbrev pub OrderFault : ℕ → Code → List ℕ → Type 0
OrderFault next Count bytes = IsOtherQuery next bytes
OrderFault next code bytes = ⊥

-- the claim about the query of that number
abbrev pub claims_about_with : Kind → ℕ → Kind
claims_about_with K number = behind (fixed (codes "query ")) (behind (marked numbers (OrderFault number)) (verdicts_with K))

-- Count: a query past the last
pub record IsPastLast (bytes : List ℕ) : Type 0 where
  pub rest : List ℕ
  pub digits : IsRun is_ascii_digit is_ascii_digit bytes rest
  pub query : ℕ
  pub short : IsShort query
  pub is : digits.run ≡ decimal query

abbrev pub PastFault : Code → List ℕ → Type 0
PastFault Count bytes = IsPastLast bytes
PastFault code bytes = ⊥

-- the end of all bytes
abbrev pub AtEnd : List ℕ → Type 0
AtEnd bytes = bytes ≡ []

-- what stands behind the number of a query past the last: it is not looked at
abbrev pub anything_else : Kind
anything_else = record { Text = λ bytes rest. EndsAt is_ascii_digit bytes × AtEnd rest; Fault = λ code bytes there. ⊥ }

-- Count: all bytes end, and a query is left
abbrev pub LeftFault : Code → List ℕ → Type 0
LeftFault Count bytes = AtEnd bytes
LeftFault code bytes = ⊥

-- the claims about so many queries, the first of which has the number, and the end of all bytes: the grammar has claims up to there,
-- whatever their numbers are and however many
abbrev pub claims_with : Kind → ℕ → ℕ → Kind
claims_with K zero number = one_of (behind (fixed (codes "query ")) (behind (marked numbers PastFault) anything_else)) (nothing_before AtEnd)
claims_with K (suc left) number = one_of (behind (claims_about_with K number) (claims_with K left (number + 1))) (marked (nothing_before AtEnd) LeftFault)

-- Certificates without a table.

abbrev pub proofs : Protocol → Kind
proofs P = proofs_with (certificates P)

abbrev pub verdicts : Protocol → Kind
verdicts P = verdicts_with (certificates P)

abbrev pub claims_about : Protocol → ℕ → Kind
claims_about P number = claims_about_with (certificates P) number

abbrev pub claims_of : Protocol → ℕ → ℕ → Kind
claims_of P left number = claims_with (certificates P) left number

-- a report: a claim about each query of the protocol, in order
abbrev pub reports : Protocol → Kind
reports P = claims_of P (length P.queries) 1
