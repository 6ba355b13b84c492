-- What can't happen in any run of a protocol, and when what is told of it is right.
use Rattle.std.specs.Prelude.{◌≡◌, ℕ, Bool, true, false, List, Contains}
use Rattle.spec_calculus.specs.Syntax.{Protocol, Query, EventTerm}
use Rattle.spec_calculus.specs.Secrecy.{Holds}
use Rattle.spec_certificates.specs.Certificate.{Certificate}
use Rattle.query_verify.specs.declared.answers.Verdict.{Verdict}
use Rattle.query_verify.specs.declared.answers.Verdict.TheVariants.{Proved}
use Rattle.query_verify.specs.Told.{IsAnswer}
use Rattle.protocol_text.specs.declared.questions.Subject.{Subject}
use Rattle.protocol_text.specs.declared.questions.Subject.TheVariants.{Event, Left}
use Rattle.protocol_text.specs.declared.questions.Impossible.{Impossible}
use Rattle.protocol_text.specs.Questions.{never, asking, IsAbout}

-- no run of the protocol performs an instance of the event
abbrev pub NeverHappens : Protocol → EventTerm → Type 0
NeverHappens P event = Holds P (never event)

-- beside other questions, the question whether the event ever happens has this verdict with the budget
pub record IsTold (P : Protocol) (budget : ℕ) (event : EventTerm) (answer : Verdict) : Type 0 where
  pub questions : List Query
  pub asked : Contains questions (never event)
  pub is : IsAnswer (asking P questions) (never event) budget answer

abbrev pub is_proved : Verdict → Bool
is_proved (Proved certificate) = true
is_proved _ = false

-- no run of the protocol performs the subject, which is proved with the budget
pub record IsNever (P : Protocol) (budget : ℕ) (subject : Subject) : Type 0 where
  pub event : EventTerm
  pub about : IsAbout P subject event
  pub never : NeverHappens P event
  pub certificate : Certificate
  pub proved : IsTold P budget event (Proved certificate)

-- that no run performs the event isn't proved with the budget
pub record IsUnproved (P : Protocol) (budget : ℕ) (event : EventTerm) : Type 0 where
  pub answer : Verdict
  pub told : IsTold P budget event answer
  pub unproved : is_proved answer ≡ false

-- the subject is among what can't happen
abbrev pub IsListed : Impossible → Subject → Type 0
IsListed found (Event number) = Contains found.events.items number
IsListed found (Left number) = Contains found.queries.items number
