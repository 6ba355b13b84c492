-- What the queries of a protocol come to.
use Rattle.std.specs.Prelude.{ℕ}
use Rattle.spec_calculus.specs.Syntax.{Protocol}
use Rattle.query_verify.specs.Told.{AnswerQueries}
use Rattle.call_outcomes.specs.Outcome.{Outcome, Verified, Memory}

-- what the queries of the protocol come to: the verdict of each with the budget, in order, or want of memory in their place
abbrev pub IsDecidedBy : Protocol → ℕ → Outcome → Type 0
IsDecidedBy P budget (Verified verdicts) = AnswerQueries P budget P.queries verdicts
IsDecidedBy P budget Memory = Unit {0}
IsDecidedBy P budget _ = ⊥
