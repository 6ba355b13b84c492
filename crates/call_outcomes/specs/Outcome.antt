-- What a call of the program comes to, as plain data.
use Rattle.std.specs.Prelude.{◌≡◌, ◌⊎◌, ℕ, List, Option}
use Rattle.spec_calculus.specs.Runs.{Configuration}
use Rattle.spec_calculus.specs.Refusals as steps
use Rattle.spec_protocol_scope.specs.Spells as spells
use Rattle.spec_run_text.specs.Faults.{Fault}
use Rattle.spec_terms.specs.Term.{Term}
use Rattle.spec_clauses.specs.Fact.{Clause}
use Rattle.spec_certificate_text.specs.Terms.{Code}
use Rattle.query_verify.specs.declared.answers.Verdict.{Verdict}
use Rattle.call_outcomes.specs.declared.outcome.Finding.{Finding}
use Rattle.call_outcomes.specs.declared.outcome.Ring.{Ring as Summary}

-- why the text of a run is refused
pub data RunRefusal : Type 0 where
  -- a line of it spells no step
  Faulty : (fault : Fault) → RunRefusal
  -- it has more bytes than a run's text may have
  LongRun : RunRefusal

-- why a report is refused
pub data ReportRefusal : Type 0 where
  -- it can't be read as a report on the protocol
  Misspelled : (code : Code) → ReportRefusal
  -- it has more bytes than a report may have
  LongReport : ReportRefusal

-- a text that is refused, why and where: line and column are counted from 1, in bytes
pub data Refusal : Type 0 where
  Protocol : (line : ℕ) → (column : ℕ) → (why : spells.Refusal) → Refusal
  Report : (line : ℕ) → (why : ReportRefusal) → Refusal
  Run : (line : ℕ) → (why : RunRefusal) → Refusal

-- what a replay shows
pub data Replay : Type 0 where
  -- all steps were made, so many, and this is their end; for each query, in order, the first after which it is violated, 0 where it is so at the start
  Done : (end : Configuration) → (steps : ℕ) → (firsts : List (Option ℕ)) → Replay
  -- the step of that number, from 1, is refused
  Stuck : (number : ℕ) → (refusal : steps.Refusal) → Replay

-- what a call of the program comes to
pub data Outcome : Type 0 where
  Usage : Outcome
  -- the verdicts of the queries, in order
  Verified : (verdicts : List Verdict) → Outcome
  -- what is found of the claims of a report about the queries, in order
  Checked : (findings : List Finding) → Outcome
  -- the clauses of a translation
  Listed : (clauses : List (Clause Term)) → Outcome
  -- the point at which a translation is too large
  ListLarge : (point : ℕ) → Outcome
  -- there is no query of that number
  NoQuery : (query : ℕ) → Outcome
  Replayed : (replay : Replay) → Outcome
  -- the summary of a ring
  Ring : (ring : Summary) → Outcome
  Refused : (refusal : Refusal) → Outcome
  ReadFault : Outcome
  Memory : Outcome

-- the outcome is the wanted one, or want of memory in its place
abbrev pub Becomes : Outcome → Outcome → Type 0
Becomes wanted outcome = (outcome ≡ wanted) ⊎ (outcome ≡ Memory)
