-- Questions in a row.
use Rattle.std.specs.Prelude.{◌≡◌, ℕ, ◌<◌, ◌≤◌, Bool, true, false, List, [], ◌∷◌, Contains}
use Rattle.spec_calculus.specs.Syntax.{Protocol, Query, Correspondence, EventTerm}
use Rattle.spec_well_formed.specs.Limits.{IsWithinLimits}
use Rattle.spec_well_formed.specs.Rules.{HasProperRules}
use Rattle.spec_well_formed.specs.Queries.{HasProperQueries}
use Rattle.spec_well_formed.specs.WellFormed.{IsWellScoped}
use Rattle.protocol_text.specs.declared.questions.Subject.{Subject}
use Rattle.protocol_text.specs.declared.questions.Subject.TheVariants.{Event, Left}
use Rattle.protocol_text.specs.Questions.{never, asking, IsAbout, IsSubject}

-- whether the query is a correspondence that has alternatives
abbrev pub has_alternatives : Query → Bool
has_alternatives (Correspondence left (first ∷ others)) = true
has_alternatives _ = false

-- each of these is there
abbrev pub AreSubjects : Protocol → List Subject → Type 0
AreSubjects P subjects = (subject : Subject) → Contains subjects subject → IsSubject P subject

-- of the events and of the left sides of queries, those up to these numbers are among the subjects
pub record AreUpTo (P : Protocol) (events queries : ℕ) (subjects : List Subject) : Type 0 where
  pub there : AreSubjects P subjects
  pub events_listed : (number : ℕ) → 0 < number → number ≤ events → Contains subjects (Event number)
  pub lefts_listed : (number : ℕ) (event : EventTerm) → number ≤ queries → IsAbout P (Left number) event → Contains subjects (Left number)

-- the query is whether the subject ever happens
pub record IsQuestion (P : Protocol) (subject : Subject) (query : Query) : Type 0 where
  pub event : EventTerm
  pub about : IsAbout P subject event
  pub is : query ≡ never event

-- a question for each subject, in order
abbrev pub AreQuestions : Protocol → List Subject → List Query → Type 0
AreQuestions P [] [] = Unit {0}
AreQuestions P [] (query ∷ queries) = ⊥
AreQuestions P (subject ∷ subjects) [] = ⊥
AreQuestions P (subject ∷ subjects) (query ∷ queries) = IsQuestion P subject query × AreQuestions P subjects queries

-- the protocol with such questions in place of its queries: it is as one that was read
pub record IsAsking (P : Protocol) (subjects : List Subject) (asked : Protocol) : Type 0 where
  pub queries : List Query
  pub questions : AreQuestions P subjects queries
  pub is : asked ≡ asking P queries
  pub limits : IsWithinLimits asked
  pub rules : HasProperRules asked
  pub scoped : IsWellScoped asked
  pub proper : HasProperQueries asked
