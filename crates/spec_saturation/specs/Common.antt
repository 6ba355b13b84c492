-- The part of a log before its goal: whatever the goal, it is one and the same, and it ends where the goal is due, with the
-- budget spent, or at a pair that is too large.
use Rattle.std.specs.Prelude.{◌≡◌, ℕ, ◌<◌, ◌≤◌, true, Option, Some, None, List, [], ◌∷◌, ◌++◌, length}
use Rattle.spec_terms.specs.Term.{Term}
use Rattle.spec_clauses.specs.Fact.{Clause}
use Rattle.spec_saturation.specs.Key.{Key, is_before, Entry, below}
use Rattle.spec_saturation.specs.Log.{goal_key, EndsAt}
use Rattle.spec_saturation.specs.End.{End, end_key, IsLogUpTo, IsLog}

-- the clauses with a goal behind them
abbrev pub with_goal : List (Clause Term) → Clause Term → List (Clause Term)
with_goal clauses goal = clauses ++ goal ∷ []

-- how the part of a log before its goal ends
pub data CommonEnd : Type 0 where
  -- the entries end at this turn for the first time, and the goal is due
  Ready : (turn : ℕ) → CommonEnd
  -- the log ends so before that
  Ended : (end : End) → CommonEnd

-- the key comes after the end
abbrev pub IsAfterEnd : Key → Option Key → Type 0
IsAfterEnd k None = ⊥
IsAfterEnd k (Some end) = is_before end k ≡ true

-- The log up to the goal's key at the first turn at which the entries end.
pub record IsReady (given : List (Clause Term)) (budget : ℕ) (log : List Entry) (turn : ℕ) : Type 0 where
  pub up_to : IsLogUpTo given (Some (goal_key given turn)) log
  pub within : length log ≤ budget
  pub ends : EndsAt given log turn
  pub first : (n : ℕ) → n < turn → EndsAt given log n → ⊥

-- The log, whose end comes before the goal's key of each turn at which the entries end.
pub record IsEndedEarly (given : List (Clause Term)) (budget : ℕ) (log : List Entry) (end : End) : Type 0 where
  pub is_log : IsLog given budget log end
  pub early : (n : ℕ) → EndsAt given log n → IsAfterEnd (goal_key given n) (end_key end)

-- the list is the part before the goal of the log of the given clauses, the goal last, and ends so
abbrev pub IsPart : List (Clause Term) → ℕ → List Entry → CommonEnd → Type 0
IsPart given budget log (Ready turn) = IsReady given budget log turn
IsPart given budget log (Ended end) = IsEndedEarly given budget log end

-- it is that part whatever the goal behind these clauses
abbrev pub IsCommonLog : List (Clause Term) → ℕ → List Entry → CommonEnd → Type 0
IsCommonLog clauses budget log end = (goal : Clause Term) → IsPart (with_goal clauses goal) budget log end

-- The log goes on from the part before its goal, or is that part and ends as it does.
abbrev pub GoesOn : List (Clause Term) → List Entry → CommonEnd → List Entry → End → Type 0
GoesOn given part (Ready turn) log end = part ≡ below (goal_key given turn) log
GoesOn given part (Ended stop) log end = (log ≡ part) × (end ≡ stop)
