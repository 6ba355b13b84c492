-- What holds of a log as it is walked along: it is the log up to some key.
use Rattle.std.specs.Prelude.{◌≡◌, ℕ, suc, ◌<◌, ◌≤◌, min, max, Bool, true, false, cond, Option, Some, None, List, length, map}
use Rattle.spec_terms.specs.Term.{Term}
use Rattle.spec_clauses.specs.Fact.{Clause}
use Rattle.spec_clauses.specs.Norm.{IsNormal}
use Rattle.spec_clauses.specs.Limits.{IsWithinLimit}
use Rattle.spec_clauses.specs.Inclusion.{Has}
use Rattle.spec_saturation.specs.Key.{Key, key, is_before}
use Rattle.spec_saturation.specs.Key as offered
use Rattle.spec_saturation.specs.Log.{goal_key, EndsAt}
use Rattle.spec_saturation.specs.End.{IsLogUpTo}
use Rattle.spec_saturation.specs.Common.{with_goal}
use Rattle.clause_form.specs.Seen.{clause_at, IdClause}
use Rattle.log_entries.specs.declared.log.Entry.{Entry}
use Rattle.log_entries.specs.declared.walk.Walk.{Walk}
use Rattle.log_walks.specs.declared.stops.Stop.{Stop}
use Rattle.log_walks.specs.declared.stops.Stop.TheVariants.{Spent, Large}
use Rattle.log_entries.specs.Logs.{TellLog, IsClosedLog, IsSpentLog, IsLargeLog}
use Rattle.log_entries.specs.Live.{AreListed}

-- what is saturated: the given clauses, the goal last, how many entries there may be, and whether the goal was offered
pub record Task : Type 0 where
  pub given : List (Clause Term)
  pub budget : ℕ
  pub asked : Bool

abbrev pub with_asked : Task → Bool → Task
with_asked task asked = record { given = task.given; budget = task.budget; asked = asked }

-- these name the task's given clauses but the goal
abbrev pub AreGivenOf : List Term → List IdClause → Task → Type 0
AreGivenOf all clauses task = (goal : Clause Term) × (task.given ≡ with_goal (map (clause_at all) clauses) goal)

-- there are given clauses, each its own norm within the limit of size
pub record IsTask (task : Task) : Type 0 where
  pub some : 0 < length task.given
  pub normal : (c : Clause Term) → Has task.given c → IsNormal c
  pub small : (c : Clause Term) → Has task.given c → IsWithinLimit c

-- the goal was due at a turn before the key, or at none
abbrev pub IsAsked : List (Clause Term) → Key → List offered.Entry → Bool → Type 0
IsAsked given at log true = (turn : ℕ) × (is_before (goal_key given turn) at ≡ true) × EndsAt given log turn
IsAsked given at log false = (turn : ℕ) → is_before (goal_key given turn) at ≡ true → EndsAt given log turn → ⊥

-- the walk has come to the key, this is the log up to there, and its live entries are listed
pub record IsAt (all : List Term) (task : Task) (walk : Walk) (at : Key) (log : List offered.Entry) : Type 0 where
  pub is_task : IsTask task
  pub budget : walk.budget ≡ task.budget
  pub tell : TellLog all walk.items.items log
  pub listed : AreListed all walk.items.items walk.live
  pub up_to : IsLogUpTo task.given (Some at) log
  pub within : length log ≤ task.budget
  pub reached : at.major ≤ length log
  pub asked : IsAsked task.given at log task.asked

abbrev pub IsWalked : List Term → Task → Walk → Key → Type 0
IsWalked all task walk at = (log : List offered.Entry) × IsAt all task walk at log

-- behind the goal's key of a turn
abbrev pub behind_goal : List (Clause Term) → ℕ → Key
behind_goal given turn = key turn turn (suc (length given))

-- where the walk stands at the end of a turn: at the goal's key, or behind it where the goal was offered
abbrev pub turn_end : Task → ℕ → Key
turn_end task turn = cond task.asked (behind_goal task.given turn) (goal_key task.given turn)

-- where the goal wasn't offered, each turn at which the entries end has the goal's key after the stop's
abbrev pub IsEarly : List (Clause Term) → List offered.Entry → Key → Bool → Type 0
IsEarly given log stop true = Unit {0}
IsEarly given log stop false = (turn : ℕ) → EndsAt given log turn → is_before stop (goal_key given turn) ≡ true

-- the budget is spent, and this entry is due
pub record HasSpent (all : List Term) (task : Task) (entries : List Entry) (due : Entry) : Type 0 where
  pub spent : IsSpentLog all task.given task.budget entries due
  pub early : IsEarly task.given spent.log spent.due.key task.asked

-- the pair of this solved and this unsolved entry is too large
pub record HasLarge (all : List Term) (task : Task) (entries : List Entry) (solved unsolved : ℕ) : Type 0 where
  pub large : IsLargeLog all task.given task.budget entries solved unsolved
  pub early : IsEarly task.given large.log (key (max solved unsolved) (min solved unsolved) 1) task.asked

-- the walk has come to the key, or stops before it with an entry that is due
abbrev pub HasOffered : List Term → Task → Walk → Key → Option Entry → Type 0
HasOffered all task walk at None = IsWalked all task walk at
HasOffered all task walk at (Some due) = HasSpent all task walk.items.items due

-- or with a pair that is too large
abbrev pub HasStopped : List Term → Task → List Entry → Stop → Type 0
HasStopped all task entries (Spent due) = HasSpent all task entries due
HasStopped all task entries (Large solved unsolved) = HasLarge all task entries solved unsolved

abbrev pub HasPassed : List Term → Task → Walk → Key → Option Stop → Type 0
HasPassed all task walk at None = IsWalked all task walk at
HasPassed all task walk at (Some stop) = HasStopped all task walk.items.items stop

-- the entries end, or the walk stops before
abbrev pub HasArrived : List Term → Task → Walk → Option Stop → Type 0
HasArrived all task walk stop = HasPassed all task walk (turn_end task (length walk.items.items)) stop

-- the walk has come to the end of the log
abbrev pub HasEnded : List Term → Task → Walk → Option Stop → Type 0
HasEnded all task walk None = IsClosedLog all task.given task.budget walk.items.items
HasEnded all task walk (Some stop) = HasStopped all task walk.items.items stop
