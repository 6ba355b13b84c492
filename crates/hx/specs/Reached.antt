-- What is found of the question whether a subject happens.
use Rattle.std.specs.Prelude.{◌≡◌, ℕ, true, List, IfSome}
use Rattle.spec_calculus.specs.Syntax.{Protocol, Query, EventTerm}
use Rattle.spec_calculus.specs.Runs.{Step}
use Rattle.run_replay.specs.Reached.{IsViolatedSometime}
use Rattle.protocol_text.specs.declared.questions.Subject.{Subject}
use Rattle.protocol_text.specs.Questions.{never, asking, IsAbout}
use Rattle.hx.specs.declared.attacking.Finding.{Finding}
use Rattle.hx.specs.Never.{IsNever}
use Rattle.hx.specs.Attacks.{run_in, is_proof}

-- the steps of the protocol, with other questions in place of its queries, violate that the subject's event never happens: they perform an instance of it
pub record Performs (P : Protocol) (subject : Subject) (steps : List Step) : Type 0 where
  pub event : EventTerm
  pub about : IsAbout P subject event
  pub questions : List Query
  pub performed : IsViolatedSometime (asking P questions) steps (never event)

-- where a run is found it performs the subject, and where it is found that none does, none does, which is proved with the budget
pub record IsFoundOf (P : Protocol) (budget : ℕ) (subject : Subject) (finding : Finding) : Type 0 where
  pub performs : IfSome (run_in finding) (Performs P subject)
  pub never : is_proof finding ≡ true → IsNever P budget subject
