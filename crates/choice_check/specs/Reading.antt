-- What the reading of a report answers.
use Rattle.std.specs.Prelude.{◌≡◌, ℕ, List}
use Rattle.spec_calculus.specs.Syntax.{Protocol}
use Rattle.spec_certificate_text.specs.Terms.{Code}
use Rattle.call_outcomes.specs.Outcome.{ReportRefusal, Misspelled}
use Rattle.call_outcomes.specs.Seen.{report_refusal_by}
use Rattle.choice_check.specs.declared.reading.Misspelling.{Misspelling}
use Rattle.choice_check.specs.declared.reading.Unread.{Unread}
use Rattle.choice_check.specs.declared.reading.Unread.TheVariants as unread
use Rattle.choice_check.specs.Checking.{IsPlainFault, IsChoiceFault, IsToldFault}

-- a refusal and its place
abbrev pub misspelled : Code × ℕ → ReportRefusal × ℕ
misspelled refusal = (Misspelled refusal.0, refusal.1)

-- a fault is so, by its code and its line
pub record IsSuch (IsFault : Code → ℕ → Type 0) (fault : Misspelling) : Type 0 where
  pub code : Code
  pub coded : report_refusal_by fault.code ≡ Misspelled code
  pub is : IsFault code fault.line

-- why no claims were read: the fault that is told of the report, or want of memory
abbrev pub IsUnread : Protocol → List ℕ → Unread → Type 0
IsUnread P bytes (unread.Misspelled fault) = IsSuch (IsToldFault P bytes) fault
IsUnread P bytes (unread.Memory e) = Unit {0}
