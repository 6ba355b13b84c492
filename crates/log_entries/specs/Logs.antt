-- What the entries of a log tell: clauses, the keys at which they were offered, and which later one subsumes them first.
use Rattle.std.specs.Prelude.{◌≡◌, ◌≢◌, ◌⊎◌, ℕ, suc, min, max, Bool, true, false, Option, Some, None, List, [], ◌∷◌, map, filter}
use Rattle.spec_terms.specs.Term.{Term}
use Rattle.spec_calculus.specs.Points.{numbered}
use Rattle.spec_clauses.specs.Fact.{Clause}
use Rattle.spec_clauses.specs.Selection.{is_solved}
use Rattle.spec_clauses.specs.Subsumption.{Subsumes}
use Rattle.spec_saturation.specs.Key.{Key, key}
use Rattle.spec_saturation.specs.Key as offered
use Rattle.spec_saturation.specs.End.{End, IsLog}
use Rattle.spec_saturation.specs.End as ending
use Rattle.clause_form.specs.Seen.{clause_at, NamesClause}
use Rattle.clause_form.specs.Fit.{HasLowVariables}
use Rattle.log_entries.specs.declared.log.Origin.{Origin}
use Rattle.log_entries.specs.declared.log.Origin.TheVariants.{Given, Resolvent}
use Rattle.log_entries.specs.declared.log.Entry.{Entry}
use Rattle.log_entries.specs.declared.log.Saturated.{Saturated}
use Rattle.log_entries.specs.declared.log.Saturated.TheVariants.{Closed, Spent, Large}

-- the entry of that number is solved
abbrev pub IsSolvedAt : List offered.Entry → ℕ → Type 0
IsSolvedAt log number = (e : offered.Entry) × (numbered log number ≡ Some e) × (is_solved e.clause.hypotheses ≡ true)

-- What is offered at the key comes from there: given clause k, the goal at the key of its turn; resolvent k of two entries,
-- of which the one that is called solved is.
abbrev pub IsOrigin : List offered.Entry → Origin → Key → Type 0
IsOrigin log (Given k) at = (turn : ℕ) × (at ≡ key turn turn k)
IsOrigin log (Resolvent k solved unsolved) at = (at ≡ key (max solved unsolved) (min solved unsolved) k) × IsSolvedAt log solved × (solved ≢ unsolved)

-- of these entries, the first of which has that number, `by` is the first that subsumes the clause, if one does
abbrev pub IsFirstSubsumer : ℕ → List offered.Entry → Clause Term → Option ℕ → Type 0
IsFirstSubsumer number [] c by = by ≡ None
IsFirstSubsumer number (e ∷ es) c by = (Subsumes e.clause c × (by ≡ Some number))
    ⊎ ((Subsumes e.clause c → ⊥) × IsFirstSubsumer (suc number) es c by)

-- the entry's clause, whose variables have low numbers, and its origin
pub record TellsEntry (all : List Term) (log : List offered.Entry) (entry : Entry) (e : offered.Entry) : Type 0 where
  pub clause : NamesClause all entry.clause e.clause
  pub low : HasLowVariables all entry.clause
  pub origin : IsOrigin log entry.origin e.key

-- the entries, the first of which has that number, one by one
abbrev pub TellEntries : List Term → List offered.Entry → ℕ → List Entry → List offered.Entry → Type 0
TellEntries all log number [] [] = Unit {0}
TellEntries all log number [] (e ∷ es) = ⊥
TellEntries all log number (entry ∷ entries) [] = ⊥
TellEntries all log number (entry ∷ entries) (e ∷ es) = TellsEntry all log entry e
    × IsFirstSubsumer (suc number) es e.clause entry.by × TellEntries all log (suc number) entries es

-- the entries tell the log
abbrev pub TellLog : List Term → List Entry → List offered.Entry → Type 0
TellLog all entries log = TellEntries all log 1 entries log

-- they are the log of the given clauses, which is closed
pub record IsClosedLog (all : List Term) (given : List (Clause Term)) (budget : ℕ) (entries : List Entry) : Type 0 where
  pub log : List offered.Entry
  pub tell : TellLog all entries log
  pub is_log : IsLog given budget log ending.Closed

-- they are the log, with the budget spent, and this entry is due
pub record IsSpentLog (all : List Term) (given : List (Clause Term)) (budget : ℕ) (entries : List Entry) (entry : Entry) : Type 0 where
  pub log : List offered.Entry
  pub due : offered.Entry
  pub tell : TellLog all entries log
  pub tells_due : TellsEntry all log entry due
  pub unbeaten : entry.by ≡ None
  pub is_log : IsLog given budget log (ending.Spent due)

-- they are the log, and the pair of this solved and this unsolved entry is too large
pub record IsLargeLog (all : List Term) (given : List (Clause Term)) (budget : ℕ) (entries : List Entry) (solved unsolved : ℕ) : Type 0 where
  pub log : List offered.Entry
  pub tell : TellLog all entries log
  pub is_solved : IsSolvedAt log solved
  pub is_log : IsLog given budget log (ending.TooLarge (max solved unsolved) (min solved unsolved))

-- it is the log of the given clauses, and its end
abbrev pub IsLogOf : List Term → List (Clause Term) → ℕ → Saturated → Type 0
IsLogOf all given budget (Closed log) = IsClosedLog all given budget log
IsLogOf all given budget (Spent log due) = IsSpentLog all given budget log due
IsLogOf all given budget (Large log solved unsolved) = IsLargeLog all given budget log solved unsolved

-- whether no later entry is told to subsume an entry
abbrev pub is_unbeaten : Option ℕ → Bool
is_unbeaten None = true
is_unbeaten (Some number) = false

-- the clauses of the entries that no later one subsumes, in order
abbrev pub live_clauses : List Term → List Entry → List (Clause Term)
live_clauses all entries = map (λ entry. clause_at all entry.clause) (filter (λ entry. is_unbeaten entry.by) entries)
