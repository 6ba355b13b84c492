-- The subjects of which the verdicts of questions tell that they never happen.
use Rattle.std.specs.Prelude.{◌≡◌, ◌↔◌, ◌⊎◌, ℕ, ◌<◌, true, Some, List, Contains, slice_get}
use Rattle.spec_calculus.specs.Syntax.{Protocol, Query, EventTerm}
use Rattle.query_verify.specs.declared.answers.Verdict.{Verdict}
use Rattle.query_verify.specs.Told.{AnswerQueries}
use Rattle.protocol_text.specs.declared.questions.Subject.{Subject}
use Rattle.protocol_text.specs.declared.questions.Impossible.{Impossible}
use Rattle.protocol_text.specs.Questions.{asking, IsAbout}
use Rattle.protocol_text.specs.Asking.{AreQuestions}
use Rattle.hx.specs.Never.{is_proved, IsNever, IsUnproved, IsListed}

-- the verdicts of such questions with the budget, one for each subject
pub record AreAnswered (P : Protocol) (budget : ℕ) (subjects : List Subject) (answers : List Verdict) : Type 0 where
  pub queries : List Query
  pub questions : AreQuestions P subjects queries
  pub are : AnswerQueries (asking P queries) budget queries answers

-- one more subject is listed
abbrev pub IsOneMore : Subject → Impossible → Impossible → Type 0
IsOneMore subject old new = (other : Subject) → IsListed new other ↔ (IsListed old other ⊎ (subject ≡ other))

-- the subject is listed if that it never happens is proved
abbrev pub IsNoted : Subject → Verdict → Impossible → Impossible → Type 0
IsNoted subject answer old new = (other : Subject) → IsListed new other ↔ (IsListed old other ⊎ ((is_proved answer ≡ true) × (subject ≡ other)))

-- of the subjects before the index, one that is proved never to happen
pub record IsProvedBefore (index : ℕ) (subjects : List Subject) (answers : List Verdict) (subject : Subject) : Type 0 where
  pub at : ℕ
  pub before : at < index
  pub stands : slice_get subjects at ≡ Some subject
  pub answer : Verdict
  pub answered : slice_get answers at ≡ Some answer
  pub proved : is_proved answer ≡ true

-- those before the index are listed that are proved never to happen
abbrev pub AreNoted : ℕ → List Subject → List Verdict → Impossible → Impossible → Type 0
AreNoted index subjects answers old new = (subject : Subject) → IsListed new subject ↔ (IsListed old subject ⊎ IsProvedBefore index subjects answers subject)

-- what is listed beside what was never happens, and of each of these subjects that isn't listed it isn't proved
pub record AreTold (P : Protocol) (budget : ℕ) (subjects : List Subject) (old new : Impossible) : Type 0 where
  pub kept : (subject : Subject) → IsListed old subject → IsListed new subject
  pub never : (subject : Subject) → IsListed new subject → IsListed old subject ⊎ IsNever P budget subject
  pub others : (subject : Subject) (event : EventTerm) → Contains subjects subject → IsAbout P subject event → IsListed new subject ⊎ IsUnproved P budget event

-- what is listed never happens, and of each of these subjects that isn't listed it isn't proved
pub record AreFound (P : Protocol) (budget : ℕ) (subjects : List Subject) (found : Impossible) : Type 0 where
  pub never : (subject : Subject) → IsListed found subject → IsNever P budget subject
  pub others : (subject : Subject) (event : EventTerm) → Contains subjects subject → IsAbout P subject event → IsListed found subject ⊎ IsUnproved P budget event
