-- The walk up to the goal is the common part of the logs, and from there the walk goes on with each goal.
use Rattle.std.proofs.Common.{◌≡◌, ◌∙◌, ℕ, zero, suc, ◌≤◌, min, max, true, false, Option, Some, List, [], ◌∷◌, ◌++◌, length, take, map, refl, ap, sym, subst, arith}
use Rattle.std.proofs.lemmas.List.{take-take, length-take-le}
use Rattle.spec_terms.specs.Term.{Term}
use Rattle.spec_calculus.specs.Points.{numbered}
use Rattle.spec_clauses.specs.Fact.{Clause, Bad}
use Rattle.spec_clauses.specs.Norm.{IsNormal}
use Rattle.spec_clauses.specs.Limits.{IsWithinLimit}
use Rattle.spec_saturation.specs.Key.{is_before}
use Rattle.spec_saturation.specs.Log.{goal_key}
use Rattle.spec_saturation.specs.End.{IsLogUpTo}
use Rattle.spec_saturation.specs.End as ending
use Rattle.spec_saturation.specs.Common.{with_goal, Ready, Ended, IsReady}
use Rattle.spec_saturation.proofs.Closing.{goal_before}
use Rattle.spec_saturation.proofs.Common.{any_goal, turn_before, with_goal_length}
use Rattle.spec_saturation.proofs.Moving.{below_all, self_not_before}
use Rattle.term_tree.specs.Bank.{Grows}
use Rattle.clause_form.specs.Seen.{clause_at, IdClause}
use Rattle.clause_form.specs.Fit.{AreFit}
use Rattle.log_entries.specs.declared.log.Entry.{Entry}
use Rattle.log_entries.specs.declared.walk.Live.{Live}
use Rattle.log_entries.specs.declared.walk.Walk.{Walk}
use Rattle.clause_saturate.specs.declared.common.Common.{Common}
use Rattle.log_entries.specs.Logs.{TellLog, IsSpentLog, IsLargeLog}
use Rattle.log_entries.specs.Live.{AreListed, IsSameLive}
use Rattle.log_walks.specs.Walked.{IsTask, IsWalked, HasSpent, HasLarge}
use Rattle.clause_saturate.specs.Common.{Shared, task_of, AreProper, begun_log, begun_size, IsCommonOf, IsSpentCommon, IsLargeCommon}
use Rattle.log_walks.proofs.Fitting.{fit_normal, fit_small, walked_grows}
use Rattle.log_entries.proofs.Placing.{front_grows, numbered_goal}
use Rattle.log_walks.proofs.Giving.{goal_task}
use Rattle.log_entries.proofs.Listing.{listed_copied}
use Rattle.log_entries.proofs.Telling.{log_length}
use Rattle.term_tree.proofs.BankLaws.{Grows-length}

take_whole : (xs : List Term) (n : ℕ) → n ≡ length xs → take n xs ≡ xs
take_whole xs n size = ap (λ k. take k xs) size ∙ take_all xs
  where
    take_all : (xs : List Term) → take (length xs) xs ≡ xs
    take_all [] = refl
    take_all (x ∷ xs) = ap (λ ys. x ∷ ys) (take_all xs)

-- a clause to stand for the goal, whatever that is
abbrev pub some_goal : Clause Term
some_goal = record { hypotheses = []; diffs = []; conclusion = Bad [] }

some_goal_normal : IsNormal some_goal
some_goal_normal = record { flat = refl; own = refl }

some_goal_small : IsWithinLimit some_goal
some_goal_small = omega arith

pub proper_task : (shared : Shared) (goal : Clause Term) → AreProper shared.clauses → IsNormal goal → IsWithinLimit goal → IsTask (task_of shared goal)
proper_task shared goal proper own within = goal_task shared.clauses goal shared.budget false proper.normal proper.small own within

pub some_task : (shared : Shared) → AreProper shared.clauses → IsTask (task_of shared some_goal)
some_task shared proper = proper_task shared some_goal proper some_goal_normal some_goal_small

-- where the walk has come to the goal its log is the common part, at whose end the goal is due
pub common_walked : (all : List Term) (shared : Shared) (goal : Clause Term) (walk : Walk) (common : Common) → AreProper shared.clauses → IsWalked all (task_of shared goal) walk (goal_key (with_goal shared.clauses goal) (length walk.items.items))
    → common.begun ≡ walk.items.items → common.live ≡ walk.live → common.budget ≡ walk.budget → common.number ≡ suc (length shared.clauses) → begun_size common ≡ length all → IsCommonOf all shared common
common_walked all shared goal walk common proper (log, at) items live budget number size = record {
  within = omega (arith, size);
  log = log;
  turn = turn;
  tell = subst (λ before. TellLog before (begun_log common) log) (sym whole) (subst (λ (es : List Entry). TellLog all es log) (sym items) at.tell);
  listed = subst (λ before. AreListed before (begun_log common) common.live) (sym whole)
      (subst (λ (l : Live). AreListed all (begun_log common) l) (sym live) (subst (λ (es : List Entry). AreListed all es walk.live) (sym items) at.listed));
  is_common = any_goal shared.clauses goal shared.budget log (Ready turn) ready;
  proper = proper;
  budget = budget ∙ at.budget;
  number = number;
}
  where
    turn : ℕ
    turn = length walk.items.items

    given : List (Clause Term)
    given = with_goal shared.clauses goal

    whole : take (begun_size common) all ≡ all
    whole = take_whole all (begun_size common) size

    ready : IsReady (with_goal shared.clauses goal) shared.budget log (length walk.items.items)
    ready =
        let all_below = below_all given (goal_key given turn) (goal_key given turn) log at.up_to (self_not_before (goal_key given turn)) in
        record {
          up_to = at.up_to;
          within = at.within;
          ends = ap length all_below ∙ sym (log_length all walk.items.items log at.tell);
          first = λ n few ends. at.asked n (goal_before given n turn few) ends;
        }

-- a stop before the goal is one whatever the goal
pub spent_common : (all : List Term) (shared : Shared) (goal : Clause Term) (entries : List Entry) (due : Entry) → HasSpent all (task_of shared goal) entries due → IsSpentCommon all shared entries due
spent_common all shared goal entries due h = record {
  log = h.spent.log;
  due = h.spent.due;
  tell = h.spent.tell;
  tells_due = h.spent.tells_due;
  unbeaten = h.spent.unbeaten;
  is_common = any_goal shared.clauses goal shared.budget h.spent.log (Ended (ending.Spent h.spent.due)) (record { is_log = h.spent.is_log; early = h.early });
}

pub large_common : (all : List Term) (shared : Shared) (goal : Clause Term) (entries : List Entry) (solved unsolved : ℕ) → HasLarge all (task_of shared goal) entries solved unsolved → IsLargeCommon all shared entries solved unsolved
large_common all shared goal entries solved unsolved h = record {
  log = h.large.log;
  tell = h.large.tell;
  is_solved = h.large.is_solved;
  is_common = any_goal shared.clauses goal shared.budget h.large.log (Ended (ending.TooLarge (max solved unsolved) (min solved unsolved))) (record { is_log = h.large.is_log; early = h.early });
}

-- from the common part the walk goes on with each goal
pub walk_goes_on : (all : List Term) (shared : Shared) (goal : Clause Term) (common : Common) (walk : Walk) → IsCommonOf all shared common → IsNormal goal → IsWithinLimit goal → walk.items.items ≡ begun_log common → IsSameLive common.live walk.live → walk.budget ≡ common.budget
    → IsWalked all (task_of shared goal) walk (goal_key (with_goal shared.clauses goal) (length walk.items.items))
walk_goes_on all shared goal common walk h own within items live budget =
    walked_grows before all (task_of shared goal) walk (goal_key given (length walk.items.items)) (front_grows (begun_size common) all) (
      h.log,
      record {
        is_task = proper_task shared goal h.proper own within;
        budget = budget ∙ h.budget;
        tell = tell;
        listed = listed_copied before walk.items.items common.live walk.live live listed;
        up_to = subst (λ n. IsLogUpTo given (Some (goal_key given n)) h.log) turn ready.up_to;
        within = ready.within;
        reached = (let count = log_length before walk.items.items h.log tell in omega (arith, count));
        asked = λ n early ends. ready.first n (turn_before given n h.turn (subst (λ k. is_before (goal_key given n) (goal_key given k) ≡ true) (sym turn) early)) ends;
      },
    )
  where
    given : List (Clause Term)
    given = with_goal shared.clauses goal

    before : List Term
    before = take (begun_size common) all

    ready : IsReady (with_goal shared.clauses goal) shared.budget h.log h.turn
    ready = h.is_common goal

    tell : TellLog (take (begun_size common) all) walk.items.items h.log
    tell = subst (λ (es : List Entry). TellLog before es h.log) (sym items) h.tell

    listed : AreListed (take (begun_size common) all) walk.items.items common.live
    listed = subst (λ (es : List Entry). AreListed before es common.live) (sym items) h.listed

    turn : h.turn ≡ length walk.items.items
    turn = sym ready.ends ∙ (ap length (below_all given (goal_key given h.turn) (goal_key given h.turn) h.log ready.up_to (self_not_before (goal_key given h.turn))) ∙ sym (log_length before walk.items.items h.log tell))

-- the goal's number among the given clauses
pub goal_number : (all : List Term) (shared : Shared) (common : Common) (goal : Clause Term) → IsCommonOf all shared common → (common.number ≡ length (with_goal shared.clauses goal)) × (numbered (with_goal shared.clauses goal) common.number ≡ Some goal)
goal_number all shared common goal h = (h.number ∙ sym (with_goal_length shared.clauses goal), numbered_goal shared.clauses goal common.number h.number)

-- with another list of the trees that `begin` left, and another log that goes on
pub common_kept : (all now : List Term) (shared : Shared) (old new : Common) → IsCommonOf all shared old → begun_size old ≤ length now → take (begun_size old) now ≡ take (begun_size old) all
    → new.begun ≡ old.begun → new.live ≡ old.live → new.budget ≡ old.budget → new.number ≡ old.number → begun_size new ≡ begun_size old → IsCommonOf now shared new
common_kept all now shared old new h within same begun live budget number size = record {
  within = omega (arith, within, size);
  log = h.log;
  turn = h.turn;
  tell = subst (λ before. TellLog before new.begun h.log) before (subst (λ (es : List Entry). TellLog (take (begun_size old) all) es h.log) (sym begun) h.tell);
  listed = subst (λ before. AreListed before new.begun new.live) before
      (subst (λ (l : Live). AreListed (take (begun_size old) all) new.begun l) (sym live) (subst (λ (es : List Entry). AreListed (take (begun_size old) all) es old.live) (sym begun) h.listed));
  is_common = h.is_common;
  proper = h.proper;
  budget = budget ∙ h.budget;
  number = number ∙ h.number;
}
  where
    before : take (begun_size old) all ≡ take (begun_size new) now
    before = sym same ∙ ap (λ n. take n now) (sym size)

-- with the trees that `begin` left, and no others
pub common_cut : (all now : List Term) (shared : Shared) (old new : Common) → IsCommonOf all shared old → now ≡ take (begun_size old) all
    → new.begun ≡ old.begun → new.live ≡ old.live → new.budget ≡ old.budget → new.number ≡ old.number → begun_size new ≡ begun_size old → IsCommonOf now shared new
common_cut all now shared old new h cut =
    let count = ap length cut ∙ length-take-le (begun_size old) all h.within in
    common_kept all now shared old new h (omega (arith, count)) (ap (take (begun_size old)) cut ∙ take-take (begun_size old) (begun_size old) all (omega arith))

-- as the bank grows, it keeps the trees that `begin` left
pub take_front : (n : ℕ) (xs more : List Term) → n ≤ length xs → take n (xs ++ more) ≡ take n xs
take_front zero xs more few = refl
take_front (suc n) [] more few = absurd (omega (arith, few))
take_front (suc n) (x ∷ xs) more few = ap (λ ys. x ∷ ys) (take_front n xs more (omega (arith, few)))

pub common_grows : (old new : List Term) (shared : Shared) (common : Common) → Grows old new → IsCommonOf old shared common → IsCommonOf new shared common
common_grows old new shared common (more, is) h =
    let longer = Grows-length old new (more, is) in
    let within = h.within in
    common_kept old new shared common common h (omega (arith, longer, within)) (ap (take (begun_size common)) is ∙ take_front (begun_size common) old more h.within) refl refl refl refl refl

-- another log that goes on changes nothing of what is shared
pub common_set : (all : List Term) (shared : Shared) (common : Common) (finished : Option (List Entry)) → IsCommonOf all shared common → IsCommonOf all shared (record { alloc = common.alloc; begun = common.begun; live = common.live; budget = common.budget; number = common.number; mark = common.mark; finished = finished })
common_set all shared common finished h =
    common_kept all all shared common (record { alloc = common.alloc; begun = common.begun; live = common.live; budget = common.budget; number = common.number; mark = common.mark; finished = finished }) h h.within refl refl refl refl refl refl

-- clauses that are fit are proper
pub fit_proper : (all : List Term) (cs : List IdClause) → AreFit all cs → AreProper (map (clause_at all) cs)
fit_proper all cs fit = record { normal = fit_normal all cs fit; small = fit_small all cs fit }

-- what ends before the goal is the log with each goal
pub spent_of_each : (all : List Term) (shared : Shared) (goal : Clause Term) (entries : List Entry) (due : Entry) → IsSpentCommon all shared entries due → IsSpentLog all (with_goal shared.clauses goal) shared.budget entries due
spent_of_each all shared goal entries due h = record { log = h.log; due = h.due; tell = h.tell; tells_due = h.tells_due; unbeaten = h.unbeaten; is_log = (h.is_common goal).is_log }

pub large_of_each : (all : List Term) (shared : Shared) (goal : Clause Term) (entries : List Entry) (solved unsolved : ℕ) → IsLargeCommon all shared entries solved unsolved → IsLargeLog all (with_goal shared.clauses goal) shared.budget entries solved unsolved
large_of_each all shared goal entries solved unsolved h = record { log = h.log; tell = h.tell; is_solved = h.is_solved; is_log = (h.is_common goal).is_log }
