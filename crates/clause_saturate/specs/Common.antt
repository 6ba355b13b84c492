-- What a `Common` holds: the part before the goal of the logs of given clauses, and the log that goes on from it.
use Rattle.std.specs.Prelude.{◌≡◌, ℕ, suc, ◌≤◌, min, max, false, Option, Some, None, List, length, take}
use Rattle.std.specs.Option.{unwrap_or}
use Rattle.spec_terms.specs.Term.{Term}
use Rattle.spec_clauses.specs.Fact.{Clause}
use Rattle.spec_clauses.specs.Norm.{IsNormal}
use Rattle.spec_clauses.specs.Limits.{IsWithinLimit}
use Rattle.spec_clauses.specs.Inclusion.{Has}
use Rattle.spec_saturation.specs.Key as offered
use Rattle.spec_saturation.specs.End as ending
use Rattle.spec_saturation.specs.Common.{with_goal, IsCommonLog}
use Rattle.spec_saturation.specs.Common as shared_log
use Rattle.log_entries.specs.declared.log.Entry.{Entry}
use Rattle.log_entries.specs.declared.log.Saturated.{Saturated}
use Rattle.log_entries.specs.declared.log.Saturated.TheVariants as whole
use Rattle.log_walks.specs.declared.stops.Stop.{Stop}
use Rattle.log_walks.specs.declared.stops.Stop.TheVariants as stopping
use Rattle.clause_saturate.specs.declared.common.Common.{Common}
use Rattle.clause_saturate.specs.declared.common.Begun.{Begun}
use Rattle.clause_saturate.specs.declared.common.Begun.TheVariants.{Ready, Spent, Large}
use Rattle.clause_saturate.specs.declared.common.End.{End}
use Rattle.clause_saturate.specs.declared.common.End.TheVariants as end
use Rattle.log_entries.specs.Logs.{IsSolvedAt, TellsEntry, TellLog}
use Rattle.log_entries.specs.Live.{AreListed}
use Rattle.log_walks.specs.Walked.{Task}

-- what all logs share: the given clauses but the goal, and how many entries there may be
pub record Shared : Type 0 where
  pub clauses : List (Clause Term)
  pub budget : ℕ

-- what is saturated with a goal, which isn't offered yet
abbrev pub task_of : Shared → Clause Term → Task
task_of shared goal = record { given = with_goal shared.clauses goal; budget = shared.budget; asked = false }

-- each of the clauses is its own norm within the limit of size
pub record AreProper (clauses : List (Clause Term)) : Type 0 where
  pub normal : (c : Clause Term) → Has clauses c → IsNormal c
  pub small : (c : Clause Term) → Has clauses c → IsWithinLimit c

-- the log as `begin` left it, and as the last call left it
abbrev pub begun_log : Common → List Entry
begun_log common = common.begun

abbrev pub log_of : Common → List Entry
log_of common = unwrap_or common.finished common.begun

-- how many trees the bank had when `begin` left it
abbrev pub begun_size : Common → ℕ
begun_size common = common.mark.len

-- In the bank, which has the trees that `begin` left, it holds the common part of the logs, at whose end the goal is due.
pub record IsCommonOf (all : List Term) (shared : Shared) (common : Common) : Type 0 where
  pub within : begun_size common ≤ length all
  pub log : List offered.Entry
  pub turn : ℕ
  pub tell : TellLog (take (begun_size common) all) (begun_log common) log
  pub listed : AreListed (take (begun_size common) all) (begun_log common) common.live
  pub is_common : IsCommonLog shared.clauses shared.budget log (shared_log.Ready turn)
  pub proper : AreProper shared.clauses
  pub budget : common.budget ≡ shared.budget
  pub number : common.number ≡ suc (length shared.clauses)

-- it does, and log and bank are as `begin` left them
pub record IsFreshCommon (all : List Term) (shared : Shared) (common : Common) : Type 0 where
  pub held : IsCommonOf all shared common
  pub fresh : log_of common ≡ begun_log common
  pub size : begun_size common ≡ length all

-- the entries are the common part of the logs, with the budget spent, and this entry is due
pub record IsSpentCommon (all : List Term) (shared : Shared) (entries : List Entry) (entry : Entry) : Type 0 where
  pub log : List offered.Entry
  pub due : offered.Entry
  pub tell : TellLog all entries log
  pub tells_due : TellsEntry all log entry due
  pub unbeaten : entry.by ≡ None
  pub is_common : IsCommonLog shared.clauses shared.budget log (shared_log.Ended (ending.Spent due))

-- they are that part, and the pair of this solved and this unsolved entry is too large
pub record IsLargeCommon (all : List Term) (shared : Shared) (entries : List Entry) (solved unsolved : ℕ) : Type 0 where
  pub log : List offered.Entry
  pub tell : TellLog all entries log
  pub is_solved : IsSolvedAt log solved
  pub is_common : IsCommonLog shared.clauses shared.budget log (shared_log.Ended (ending.TooLarge (max solved unsolved) (min solved unsolved)))

-- it is the common part of the logs, and its end
abbrev pub IsBegun : List Term → Shared → Begun → Type 0
IsBegun all shared (Ready common) = IsFreshCommon all shared common
IsBegun all shared (Spent log due) = IsSpentCommon all shared log due
IsBegun all shared (Large log solved unsolved) = IsLargeCommon all shared log solved unsolved

-- the entries and how they end, as one answer
abbrev pub saturated : List Entry → End → Saturated
saturated log end.Closed = whole.Closed log
saturated log (end.Spent due) = whole.Spent log due
saturated log (end.Large solved unsolved) = whole.Large log solved unsolved

-- the end that a walk comes to where it stops, or goes by no more
abbrev pub EndsWith : Option Stop → End → Type 0
EndsWith None e = e ≡ end.Closed
EndsWith (Some (stopping.Spent due)) e = e ≡ end.Spent due
EndsWith (Some (stopping.Large solved unsolved)) e = e ≡ end.Large solved unsolved
