-- The verdict of a query: that it is proved, with its certificate, or why it stays unknown.
use Rattle.std.specs.Prelude.{◌≡◌, ◌⊎◌, ℕ, ◌<◌, min, max, true, Some, List}
use Rattle.spec_calculus.specs.Syntax.{Query, Protocol}
use Rattle.spec_calculus.specs.Points.{numbered}
use Rattle.spec_terms.specs.Term.{Term}
use Rattle.spec_clauses.specs.Fact.{Clause}
use Rattle.spec_clauses.specs.Selection.{is_solved}
use Rattle.spec_translation.specs.Translation.{Clauses, LargeAt, IsTranslation}
use Rattle.spec_translation.specs.Satisfied.{is_bad, IsSatisfied}
use Rattle.spec_certificates.specs.Certificate.{Certificate}
use Rattle.spec_saturation.specs.Key.{Entry}
use Rattle.spec_saturation.specs.Log.{IsLive}
use Rattle.spec_saturation.specs.Live.{AreLive}
use Rattle.spec_saturation.specs.End.{Closed, Spent, TooLarge, IsLog}
use Rattle.spec_verdicts.specs.First.{IsFirstCertificate}

pub data Verdict : Type 0 where
  -- the log is closed, and its live clauses show the query
  Proved : (certificate : Certificate) → Verdict
  -- the log has as many entries as the budget allows, and this one is due
  Budget : (log : List Entry) → (due : Entry) → Verdict
  -- the pair of this solved entry and this unsolved one is too large
  SizePair : (log : List Entry) → (solved unsolved : ℕ) → Verdict
  -- the translation is too large at the point
  SizePoint : (point : ℕ) → Verdict
  -- the log is closed, and its entry of this number isn't satisfied
  Unmet : (log : List Entry) → (number : ℕ) → Verdict

-- the entry of that number is solved
abbrev pub IsSolvedAt : List Entry → ℕ → Type 0
IsSolvedAt log number = (e : Entry) × (numbered log number ≡ Some e) × (is_solved e.clause.hypotheses ≡ true)

-- the entry of that number is live and solved, concludes `bad`, and doesn't satisfy the query
pub record IsUnmet (P : Protocol) (q : Query) (log : List Entry) (number : ℕ) : Type 0 where
  pub clause : Clause Term
  pub live : IsLive log number clause
  pub solved : is_solved clause.hypotheses ≡ true
  pub concludes_bad : is_bad clause.conclusion ≡ true
  pub unsatisfied : IsSatisfied P q clause → ⊥

-- and no entry before it is so
pub record IsFirstUnmet (P : Protocol) (q : Query) (log : List Entry) (number : ℕ) : Type 0 where
  pub unmet : IsUnmet P q log number
  pub first : (n : ℕ) → n < number → IsUnmet P q log n → ⊥

-- the log is closed, and this is the first certificate of its live clauses
pub record IsProved (P : Protocol) (q : Query) (given : List (Clause Term)) (budget : ℕ) (cert : Certificate) : Type 0 where
  pub log : List Entry
  pub is_log : IsLog given budget log Closed
  pub live : AreLive log cert.clauses
  pub certificate : IsFirstCertificate P q given cert

-- what the one log of the translation's clauses comes to
abbrev pub IsEnd : Protocol → Query → List (Clause Term) → ℕ → Verdict → Type 0
IsEnd P q given budget (Proved cert) = IsProved P q given budget cert
IsEnd P q given budget (Budget log due) = IsLog given budget log (Spent due)
IsEnd P q given budget (SizePair log solved unsolved) = IsLog given budget log (TooLarge (max solved unsolved) (min solved unsolved)) × IsSolvedAt log solved
IsEnd P q given budget (SizePoint point) = ⊥
IsEnd P q given budget (Unmet log number) = IsLog given budget log Closed × IsFirstUnmet P q log number

-- the translation is too large at a point, and that is the verdict; or the verdict is what the log of its clauses comes to
abbrev pub IsVerdict : Protocol → Query → ℕ → Verdict → Type 0
IsVerdict P q budget verdict = ((point : ℕ) × IsTranslation P q (LargeAt point) × (verdict ≡ SizePoint point))
    ⊎ ((given : List (Clause Term)) × IsTranslation P q (Clauses given) × IsEnd P q given budget verdict)
