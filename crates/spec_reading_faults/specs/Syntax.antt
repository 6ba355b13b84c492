-- Faults of syntax: by which bytes they are told, and that no text goes on with these.
use Rattle.std.specs.Prelude.{◌≡◌, ℕ, ◌+◌, List, ◌∷◌, ◌++◌, length}
use Rattle.spec_calculus.specs.Syntax.{Protocol}
use Rattle.spec_certificate_text.specs.Terms.{Syntax}
use Rattle.spec_certificate_text.specs.Outcomes.{Reader, Faulty}
use Rattle.spec_certificate_text.specs.Reports.{Claim, read_report}
use Rattle.spec_certificate_text.specs.ReportText.{SpellsReport}

-- a fault of syntax at a byte is told by it and the bytes before it: it is the same whatever follows
abbrev pub IsToldThere : {A : Type 0} → Reader A → Type 0
IsToldThere r = (before : List ℕ) (b : ℕ) (rest other : List ℕ) (at : ℕ)
    → r (before ++ b ∷ rest) at ≡ Faulty (at + length before) Syntax → r (before ++ b ∷ other) at ≡ Faulty (at + length before) Syntax

-- where a fault of syntax is told at a byte, no text of such a thing, whatever follows it, begins with this byte behind those before it
abbrev pub NoneGoesOn : {A : Type 0} → (A → List ℕ → List ℕ) → (A → Type 0) → Reader A → Type 0
NoneGoesOn {A} text Is r = (before : List ℕ) (b : ℕ) (rest other : List ℕ) (at : ℕ) (x : A) (behind : List ℕ)
    → r (before ++ b ∷ rest) at ≡ Faulty (at + length before) Syntax → Is x → before ++ b ∷ other ≡ text x behind → ⊥

-- the same of a report, of which all bytes are read
abbrev pub IsReportToldThere : Protocol → Type 0
IsReportToldThere P = (before : List ℕ) (b : ℕ) (rest other : List ℕ)
    → read_report P (before ++ b ∷ rest) ≡ Faulty (length before) Syntax → read_report P (before ++ b ∷ other) ≡ Faulty (length before) Syntax

abbrev pub NoReportGoesOn : Protocol → Type 0
NoReportGoesOn P = (before : List ℕ) (b : ℕ) (rest other : List ℕ) (claims : List Claim)
    → read_report P (before ++ b ∷ rest) ≡ Faulty (length before) Syntax → SpellsReport P (before ++ b ∷ other) claims → ⊥
