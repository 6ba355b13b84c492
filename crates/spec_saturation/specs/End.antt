-- How a log ends: closed, with the budget spent, or at a pair that is too large. Exactly one end of exactly one list is the log.
use Rattle.std.specs.Prelude.{◌≡◌, ℕ, ◌≤◌, true, Option, Some, None, List, [], ◌∷◌, length}
use Rattle.std.specs.List.{AllByRecursion}
use Rattle.spec_terms.specs.Term.{Term}
use Rattle.spec_clauses.specs.Fact.{Clause}
use Rattle.spec_clauses.specs.Resolvents.{Large}
use Rattle.spec_clauses.specs.Inclusion.{Has}
use Rattle.spec_saturation.specs.Key.{Key, key, is_before, Entry}
use Rattle.spec_saturation.specs.Log.{Gives, IsNew}

-- the end of a log
pub data End : Type 0 where
  -- all that is new is there
  Closed : End
  -- the budget is spent, and this is due
  Spent : (due : Entry) → End
  -- the pair of these entries, the later one first, is too large
  TooLarge : (major minor : ℕ) → End

-- the key at which the log ends, if it ends before all is there
abbrev pub end_key : End → Option Key
end_key Closed = None
end_key (Spent due) = Some due.key
end_key (TooLarge major minor) = Some (key major minor 1)

-- the key comes before the end
abbrev pub IsBeforeEnd : Key → Option Key → Type 0
IsBeforeEnd k None = Unit {0}
IsBeforeEnd k (Some end) = is_before k end ≡ true

-- the entries stand in the order of their keys
abbrev pub AreSorted : List Entry → Type 0
AreSorted [] = Unit {0}
AreSorted (e ∷ es) = AllByRecursion (λ later. is_before e.key later.key ≡ true) es × AreSorted es

-- The log up to a key: exactly the new offers of lesser key, in order of key, and no due pair before it is too large.
pub record IsLogUpTo (given : List (Clause Term)) (end : Option Key) (log : List Entry) : Type 0 where
  pub sorted : AreSorted log
  pub early : (e : Entry) → Has log e → IsBeforeEnd e.key end
  pub sound : (e : Entry) → Has log e → IsNew given log e
  pub complete : (e : Entry) → IsBeforeEnd e.key end → IsNew given log e → Has log e
  pub no_large : (m i : ℕ) → IsBeforeEnd (key m i 1) end → Gives log m i Large → ⊥

-- why the log ends there
abbrev pub IsCause : List (Clause Term) → ℕ → List Entry → End → Type 0
IsCause given budget log Closed = Unit {0}
IsCause given budget log (Spent due) = (length log ≡ budget) × IsNew given log due
IsCause given budget log (TooLarge major minor) = Gives log major minor Large

-- The list is the log of the given clauses, the goal last, with at most so many entries, and ends so.
pub record IsLog (given : List (Clause Term)) (budget : ℕ) (log : List Entry) (end : End) : Type 0 where
  pub up_to : IsLogUpTo given (end_key end) log
  pub within : length log ≤ budget
  pub cause : IsCause given budget log end
