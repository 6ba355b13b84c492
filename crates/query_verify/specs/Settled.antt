-- What settles the verdict of every query, and what all translations begin with.
use Rattle.std.specs.Prelude.{◌≡◌, ℕ, List, ◌++◌, map}
use Rattle.spec_calculus.specs.Syntax.{Query, Protocol}
use Rattle.spec_terms.specs.Term.{Term}
use Rattle.spec_clauses.specs.Fact.{Clause}
use Rattle.spec_saturation.specs.Common.{with_goal}
use Rattle.spec_translation.specs.Translation.{Clauses, LargeAt, IsTranslation, goal_clauses}
use Rattle.clause_form.specs.Seen.{clause_at, IdClause}
use Rattle.clause_saturate.specs.Common.{Shared, IsSpentCommon, IsLargeCommon}
use Rattle.query_verify.specs.declared.settled.Settled.{Settled}
use Rattle.query_verify.specs.declared.settled.Settled.TheVariants.{TooLarge, Spent, Large}

-- with a query's goal behind them the clauses are its translation
abbrev pub AreCommonTo : Protocol → List (Clause Term) → Type 0
AreCommonTo P clauses = (q : Query) → IsTranslation P q (Clauses (clauses ++ goal_clauses P q))

-- what the logs of the clauses share
abbrev pub shared_by : List (Clause Term) → ℕ → Shared
shared_by clauses budget = record { clauses = clauses; budget = budget }

-- each translation is too large at the point; or all logs end so before the goal
abbrev pub IsSettled : List Term → Protocol → ℕ → Settled → Type 0
IsSettled all P budget (TooLarge point) = (q : Query) → IsTranslation P q (LargeAt point)
IsSettled all P budget (Spent log due) = (clauses : List (Clause Term)) × AreCommonTo P clauses × IsSpentCommon all (shared_by clauses budget) log due
IsSettled all P budget (Large log solved unsolved) = (clauses : List (Clause Term)) × AreCommonTo P clauses × IsLargeCommon all (shared_by clauses budget) log solved unsolved

-- the ids name these clauses and a goal behind them
abbrev pub AreGoalBehind : List Term → Shared → List IdClause → Type 0
AreGoalBehind all shared given = (goal : Clause Term) × (map (clause_at all) given ≡ with_goal shared.clauses goal)

-- what the clauses that the ids name share
abbrev pub shared_of : List Term → List IdClause → ℕ → Shared
shared_of all given budget = shared_by (map (clause_at all) given) budget
