-- The log of given clauses, the goal last: which clauses are offered, and which of them are new
-- (saturation by resolution with selection: Blanchet 2001, section 4; the order of the offers is this project's own).
use Rattle.std.specs.Prelude.{◌≡◌, ◌⊎◌, ℕ, ◌<◌, true, false, Some, List, length, drop}
use Rattle.spec_terms.specs.Term.{Term}
use Rattle.spec_calculus.specs.Points.{numbered}
use Rattle.spec_clauses.specs.Fact.{Clause}
use Rattle.spec_clauses.specs.Selection.{Selection, select, is_solved}
use Rattle.spec_clauses.specs.Resolvents.{Answer, Resolvents, Resolves}
use Rattle.spec_clauses.specs.Inclusion.{Has}
use Rattle.spec_clauses.specs.Subsumption.{Subsumes}
use Rattle.spec_saturation.specs.Key.{Key, key, Entry, below}

-- an entry of the list subsumes the clause
abbrev pub IsBeaten : List Entry → Clause Term → Type 0
IsBeaten entries c = (e : Entry) × Has entries e × Subsumes e.clause c

-- the entry of that number, from 1, has the clause, and no entry after it subsumes it
pub record IsLive (entries : List Entry) (number : ℕ) (c : Clause Term) : Type 0 where
  pub entry : Entry
  pub at : numbered entries number ≡ Some entry
  pub clause : entry.clause ≡ c
  pub unbeaten : IsBeaten (drop number entries) c → ⊥

-- some live entry subsumes the clause
abbrev pub IsCoveredBy : List Entry → Clause Term → Type 0
IsCoveredBy entries c = (number : ℕ) × (general : Clause Term) × IsLive entries number general × Subsumes general c

-- The pair of entries m and i is due among these entries: i is the earlier, both are live, and one is solved and the other isn't.
pub record IsDue (entries : List Entry) (m i : ℕ) (solved unsolved : Clause Term) : Type 0 where
  pub order : i < m
  pub left_solved : is_solved solved.hypotheses ≡ true
  pub right_unsolved : is_solved unsolved.hypotheses ≡ false
  pub live : (IsLive entries i solved × IsLive entries m unsolved) ⊎ (IsLive entries m solved × IsLive entries i unsolved)

-- the pair, due when its resolvents are offered, gives this answer on the hypothesis that is selected
pub record Gives (log : List Entry) (m i : ℕ) (answer : Answer) : Type 0 where
  pub solved : Clause Term
  pub unsolved : Clause Term
  pub at : Selection
  pub is_due : IsDue (below (key m i 1) log) m i solved unsolved
  pub selected : select unsolved.hypotheses ≡ Some at
  pub gives : Resolves solved unsolved at answer

-- given clause k, the goal aside, is offered at (0, 0, k)
pub record IsGivenOffer (given : List (Clause Term)) (e : Entry) : Type 0 where
  pub number : ℕ
  pub no_goal : number < length given
  pub at : e.key ≡ key 0 0 number
  pub clause : numbered given number ≡ Some e.clause

-- resolvent k of the due pair of entries m and i is offered at (m, i, k)
pub record IsResolventOffer (log : List Entry) (e : Entry) : Type 0 where
  pub resolvents : List (Clause Term)
  pub gives : Gives log e.key.major e.key.minor (Resolvents resolvents)
  pub clause : numbered resolvents e.key.number ≡ Some e.clause

-- the key at which the goal is offered if the entries end at turn n: after all keys of major n, and before all others
abbrev pub goal_key : List (Clause Term) → ℕ → Key
goal_key given n = key n n (length given)

-- exactly n entries have keys whose major is n at most
abbrev pub EndsAt : List (Clause Term) → List Entry → ℕ → Type 0
EndsAt given log n = length (below (goal_key given n) log) ≡ n

-- the goal is offered at the first turn at which the entries end
pub record IsGoalOffer (given : List (Clause Term)) (log : List Entry) (e : Entry) : Type 0 where
  pub turn : ℕ
  pub at : e.key ≡ goal_key given turn
  pub ends : EndsAt given log turn
  pub first : (n : ℕ) → n < turn → EndsAt given log n → ⊥
  pub clause : numbered given (length given) ≡ Some e.clause

-- the entry's clause is offered at its key
abbrev pub IsOffered : List (Clause Term) → List Entry → Entry → Type 0
IsOffered given log e = IsGivenOffer given e ⊎ (IsResolventOffer log e ⊎ IsGoalOffer given log e)

-- it is offered, and no entry that is live among those of lesser key subsumes it
pub record IsNew (given : List (Clause Term)) (log : List Entry) (e : Entry) : Type 0 where
  pub offered : IsOffered given (below e.key log) e
  pub uncovered : IsCoveredBy (below e.key log) e.clause → ⊥
