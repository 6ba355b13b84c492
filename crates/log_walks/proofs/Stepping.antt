-- A walk goes on: with an offer, and from pair to pair and turn to turn.
use Rattle.std.proofs.Common.{◌≡◌, ◌⊎◌, ◌∙◌, ℕ, suc, ◌+◌, ◌<◌, ◌≤◌, Bool, true, false, cond, Option, Some, None, List, [], ◌∷◌, ◌++◌, length, refl, ap, sym, subst, inl, inr, length-append, arith}
use Rattle.std.proofs.lemmas.Bool.Decides.{nat_tests}
use Rattle.spec_terms.specs.Term.{Term}
use Rattle.spec_calculus.specs.Points.{numbered}
use Rattle.spec_clauses.specs.Fact.{Clause}
use Rattle.spec_saturation.specs.Key.{Key, key, is_before, below}
use Rattle.spec_saturation.specs.Key as offered
use Rattle.spec_saturation.specs.Log.{IsCoveredBy, IsOffered, goal_key, EndsAt}
use Rattle.spec_saturation.proofs.Keys.{before_trans, compared, parts_of_key}
use Rattle.spec_saturation.proofs.Moving.{next, before_next, next_least, below_push, below_all, self_not_before, skipped, pushed}
use Rattle.spec_saturation.proofs.Turns.{begun, turn_ends, turn_begins, closed, goal_passed, goal_offered}
use Rattle.log_entries.specs.declared.log.Entry.{Entry}
use Rattle.log_entries.specs.declared.log.Origin.TheVariants.{Given}
use Rattle.log_entries.specs.declared.walk.Walk.{Walk}
use Rattle.log_walks.specs.declared.stops.Stop.{Stop}
use Rattle.log_walks.specs.declared.stops.Stop.TheVariants.{Spent, Large}
use Rattle.log_entries.specs.Logs.{IsOrigin, TellLog, IsClosedLog}
use Rattle.log_entries.specs.Beating.{IsOfferMade}
use Rattle.log_entries.specs.Live.{AreListed}
use Rattle.log_walks.specs.Walked.{Task, with_asked, IsTask, IsAsked, IsAt, IsWalked, IsEarly, HasSpent, HasStopped, HasOffered, HasPassed, HasArrived, HasEnded, behind_goal, turn_end}
use Rattle.log_entries.proofs.Telling.{log_length}

-- The log after an offer: the same, or with the offer at its end.
abbrev pub IsNextLog : List offered.Entry → offered.Entry → List offered.Entry → Type 0
IsNextLog log e after = (after ≡ log) ⊎ (after ≡ log ++ e ∷ [])

not_after : (j k : Key) → is_before j k ≡ true → is_before k j ≡ false
not_after j k h = grind (arith, nat_tests)

-- what is below an earlier key stays
below_same : (k : Key) (log after : List offered.Entry) (e : offered.Entry) → is_before k e.key ≡ true → IsNextLog log e after → below k after ≡ below k log
below_same k log after e h (inl same) = ap (below k) same
below_same k log after e h (inr more) = ap (below k) more ∙ below_push k log e (not_after k e.key h)

ends_same : (given : List (Clause Term)) (log after : List offered.Entry) (e : offered.Entry) (t : ℕ) → is_before (goal_key given t) e.key ≡ true → IsNextLog log e after → EndsAt given log t → EndsAt given after t
ends_same given log after e t h n ends = ap length (below_same (goal_key given t) log after e h n) ∙ ends

ends_back : (given : List (Clause Term)) (log after : List offered.Entry) (e : offered.Entry) (t : ℕ) → is_before (goal_key given t) e.key ≡ true → IsNextLog log e after → EndsAt given after t → EndsAt given log t
ends_back given log after e t h n ends = ap length (sym (below_same (goal_key given t) log after e h n)) ∙ ends

-- whether the goal was due, behind an offer that isn't the goal's
pub asked_on : (given : List (Clause Term)) (log after : List offered.Entry) (e : offered.Entry) (asked : Bool) → ((t : ℕ) → goal_key given t ≡ e.key → ⊥) → IsNextLog log e after → IsAsked given e.key log asked → IsAsked given (next e.key) after asked
asked_on given log after e true no_goal n was = (was.0, before_trans (goal_key given was.0) e.key (next e.key) was.1 (before_next e.key), ends_same given log after e was.0 was.1 n was.2)
asked_on given log after e false no_goal n was = λ t h ends. go t h ends (is_before (goal_key given t) e.key) refl
  where
    go : (t : ℕ) → is_before (goal_key given t) (next e.key) ≡ true → EndsAt given after t → (b : Bool) → is_before (goal_key given t) e.key ≡ b → ⊥
    go t h ends true p = was t p (ends_back given log after e t p n ends)
    go t h ends false p = no_goal t (next_least (goal_key given t) e.key h p)

-- and behind a key up to which no goal lies
pub asked_moved : (given : List (Clause Term)) (from to : Key) (log : List offered.Entry) (asked : Bool) → ((k : Key) → is_before k from ≡ true → is_before k to ≡ true) → ((t : ℕ) → is_before (goal_key given t) to ≡ true → is_before (goal_key given t) from ≡ true) → IsAsked given from log asked → IsAsked given to log asked
asked_moved given from to log true ascends none was = (was.0, ascends (goal_key given was.0) was.1, was.2)
asked_moved given from to log false ascends none was = λ t h ends. was t (none t h) ends

-- a task stays one when the goal is offered
pub asked_task : (task : Task) (asked : Bool) → IsTask task → IsTask (with_asked task asked)
asked_task task asked t = record { some = t.some; normal = t.normal; small = t.small }

-- a stop with an offer that isn't the goal's comes before the goal
pub asked_early : (given : List (Clause Term)) (log : List offered.Entry) (at : Key) (asked : Bool) → ((t : ℕ) → goal_key given t ≡ at → ⊥) → IsAsked given at log asked → IsEarly given log at asked
asked_early given log at true no_goal was = tt
asked_early given log at false no_goal was = λ t ends. elim (compared at (goal_key given t)) as (λ _. is_before at (goal_key given t) ≡ true) [
  | inl before ↦ before
  | inr o ↦ elim o as (λ _. is_before at (goal_key given t) ≡ true) [
    | inl same ↦ absurd (no_goal t (sym same))
    | inr after ↦ absurd (was t after ends)
  ]
]

-- one offer of the walk
pub offer_step : (all : List Term) (task : Task) (later : Bool) (old new : Walk) (log : List offered.Entry) (e : offered.Entry) → IsAt all task old e.key log → IsOffered task.given log e → new.budget ≡ old.budget → AreListed all new.items.items new.live → ((after : List offered.Entry) → IsNextLog log e after → IsAsked task.given (next e.key) after later)
    → IsOfferMade all log old.items.items new.items.items old.budget e None → (after : List offered.Entry) × IsNextLog log e after × IsAt all (with_asked task later) new (next e.key) after
offer_step all task later old new log e at offered same listed asked (inl covered) = (
  log,
  inl refl,
  record {
    is_task = asked_task task later at.is_task;
    budget = same ∙ at.budget;
    tell = subst (λ (xs : List Entry). TellLog all xs log) (sym covered.1) at.tell;
    listed = listed;
    up_to = skipped task.given log e at.up_to offered covered.0;
    within = at.within;
    reached = at.reached;
    asked = asked log (inl refl);
  },
)
offer_step all task later old new log e at offered same listed asked (inr added) = (
  log ++ e ∷ [],
  inr refl,
  record {
    is_task = asked_task task later at.is_task;
    budget = same ∙ at.budget;
    tell = added.tell;
    listed = listed;
    up_to = pushed task.given log e at.up_to offered added.uncovered;
    within = (let room = added.room in let budget = at.budget in let count : length (log ++ e ∷ []) ≡ length log + 1 = length-append log (e ∷ []) in omega (arith, room, budget, count));
    reached = (let reached = at.reached in let count : length (log ++ e ∷ []) ≡ length log + 1 = length-append log (e ∷ []) in omega (arith, reached, count));
    asked = asked (log ++ e ∷ []) (inr refl);
  },
)

-- an offer that is due where the budget is spent
pub due_step : (all : List Term) (task : Task) (asked : Bool) (old new : Walk) (log : List offered.Entry) (e : offered.Entry) (due : Entry) → IsAt all task old e.key log → IsOffered task.given log e → IsEarly task.given log e.key asked → IsOfferMade all log old.items.items new.items.items old.budget e (Some due) → HasSpent all (with_asked task asked) new.items.items due
due_step all task asked old new log e due at offered early made =
    let whole = below_all task.given e.key e.key log at.up_to (self_not_before e.key) in
    record {
      spent = record {
        log = log;
        due = e;
        tell = subst (λ (xs : List Entry). TellLog all xs log) (sym made.same) at.tell;
        tells_due = made.tells;
        unbeaten = made.unbeaten;
        is_log = record {
          up_to = at.up_to;
          within = at.within;
          cause = (
            made.full ∙ at.budget,
            record {
              offered = subst (λ es. IsOffered task.given es e) (sym whole) offered;
              uncovered = subst (λ es. IsCoveredBy es e.clause → ⊥) (sym whole) made.uncovered;
            },
          );
        };
      };
      early = early;
    }

-- the walk begins before the first given clause
pub walk_begins : (all : List Term) (task : Task) (walk : Walk) → IsTask task → walk.items.items ≡ [] → walk.budget ≡ task.budget → task.asked ≡ false → AreListed all walk.items.items walk.live → IsWalked all task walk (key 0 0 1)
walk_begins all task walk is_task none budget asked listed = (
  [],
  record {
    is_task = is_task;
    budget = budget;
    tell = subst (λ (xs : List Entry). TellLog all xs []) (sym none) tt;
    listed = listed;
    up_to = begun task.given is_task.some;
    within = omega arith;
    reached = omega arith;
    asked = subst (IsAsked task.given (key 0 0 1) []) (sym asked) (λ t h ends. early t (length task.given) is_task.some h);
  },
)
  where
    early : (t K : ℕ) → 0 < K → is_before (key t t K) (key 0 0 1) ≡ true → ⊥
    early t K some h = grind (arith, nat_tests)

-- no goal has the key of another given clause
not_goal : (given : List (Clause Term)) (k : ℕ) → k < length given → (t : ℕ) → goal_key given t ≡ key 0 0 k → ⊥
not_goal given k few t same = let number = (parts_of_key (goal_key given t) (key 0 0 k) same).2 in omega (arith, few, number)

-- a given clause but the last is offered
pub given_step : (all : List Term) (task : Task) (old new : Walk) (k : ℕ) (c : Clause Term) (due : Option Entry) → IsWalked all task old (key 0 0 k) → k < length task.given → numbered task.given k ≡ Some c → new.budget ≡ old.budget
    → AreListed all new.items.items new.live → ((log : List offered.Entry) → TellLog all old.items.items log → IsOfferMade all log old.items.items new.items.items old.budget (record { key = key 0 0 k; clause = c }) due) → HasOffered all task new (key 0 0 (suc k)) due
given_step all task old new k c None (log, at) few is kept listed made =
    let e : offered.Entry = record { key = key 0 0 k; clause = c } in
    let went = offer_step all task task.asked old new log e at (inl (record { number = k; no_goal = few; at = refl; clause = is })) kept listed
    (λ after n. asked_on task.given log after e task.asked (not_goal task.given k few) n at.asked) (made log at.tell) in
    (went.0, went.2)
given_step all task old new k c (Some due) (log, at) few is kept listed made =
    due_step all task task.asked old new log (record { key = key 0 0 k; clause = c }) due at (inl (record { number = k; no_goal = few; at = refl; clause = is }))
    (asked_early task.given log (key 0 0 k) task.asked (not_goal task.given k few) at.asked) (made log at.tell)

-- the goal is passed by, where it was due before or the entries don't end
pub goal_step_past : (all : List Term) (task : Task) (walk : Walk) (turn : ℕ) → IsWalked all task walk (goal_key task.given turn) → (task.asked ≡ true) ⊎ (turn < length walk.items.items) → IsWalked all task walk (behind_goal task.given turn)
goal_step_past all task walk turn (log, at) why = (
  log,
  record {
    is_task = at.is_task;
    budget = at.budget;
    tell = at.tell;
    listed = at.listed;
    up_to = goal_passed task.given at.is_task.some log turn (not_first why) at.up_to;
    within = at.within;
    reached = at.reached;
    asked = go task.asked refl at.asked;
  },
)
  where
    count : length walk.items.items ≡ length log
    count = log_length all walk.items.items log at.tell

    whole : below (goal_key task.given turn) log ≡ log
    whole = below_all task.given (goal_key task.given turn) (goal_key task.given turn) log at.up_to (self_not_before (goal_key task.given turn))

    turns : (t : ℕ) → is_before (goal_key task.given t) (goal_key task.given turn) ≡ true → t < turn
    turns t h = grind (arith, nat_tests)

    no_end : turn < length walk.items.items → EndsAt task.given log turn → ⊥
    no_end more ends = let same = ap length whole in omega (arith, more, ends, count, same)

    not_first : (task.asked ≡ true) ⊎ (turn < length walk.items.items) → EndsAt task.given log turn → ((t : ℕ) → t < turn → EndsAt task.given log t → ⊥) → ⊥
    not_first (inl asked) ends first = (
        let was : IsAsked task.given (goal_key task.given turn) log true = subst (IsAsked task.given (goal_key task.given turn) log) asked at.asked in
        first was.0 (turns was.0 was.1) was.2)
    not_first (inr more) ends first = no_end more ends

    go : (b : Bool) → task.asked ≡ b → IsAsked task.given (goal_key task.given turn) log b → IsAsked task.given (behind_goal task.given turn) log b
    go true e was = (was.0, before_trans (goal_key task.given was.0) (goal_key task.given turn) (behind_goal task.given turn) was.1 (before_next (goal_key task.given turn)), was.2)
    go false e was = λ t h ends. at_or_before t h ends (is_before (goal_key task.given t) (goal_key task.given turn)) refl
      where
        at_or_before : (t : ℕ) → is_before (goal_key task.given t) (behind_goal task.given turn) ≡ true → EndsAt task.given log t → (b : Bool) → is_before (goal_key task.given t) (goal_key task.given turn) ≡ b → ⊥
        at_or_before t h ends true p = was t p ends
        at_or_before t h ends false p =
            let same : t ≡ turn = (parts_of_key (goal_key task.given t) (goal_key task.given turn) (next_least (goal_key task.given t) (goal_key task.given turn) h p)).0 in
            not_now why (subst (EndsAt task.given log) same ends)
          where
            not_now : (task.asked ≡ true) ⊎ (turn < length walk.items.items) → EndsAt task.given log turn → ⊥
            not_now (inl asked) ends = (let wrong : true ≡ false = sym asked ∙ e in cc)
            not_now (inr more) ends = no_end more ends

-- the goal is offered where the entries end for the first time
record GoalDue (all : List Term) (task : Task) (walk : Walk) (turn : ℕ) (goal : Clause Term) : Type 0 where
  log : List offered.Entry
  at : IsAt all task walk (goal_key task.given turn) log
  offered_there : IsOffered task.given log (record { key = goal_key task.given turn; clause = goal })
  ends : (after : List offered.Entry) → IsNextLog log (record { key = goal_key task.given turn; clause = goal }) after → EndsAt task.given after turn

goal_due : (all : List Term) (task : Task) (walk : Walk) (turn : ℕ) (goal : Clause Term) → IsWalked all task walk (goal_key task.given turn) → task.asked ≡ false → length walk.items.items ≤ turn → numbered task.given (length task.given) ≡ Some goal → GoalDue all task walk turn goal
goal_due all task walk turn goal (log, at) unasked few is_goal =
    let count = log_length all walk.items.items log at.tell in
    let reached = at.reached in
    let size : length log ≡ turn = omega (arith, count, reached, few) in
    let was : IsAsked task.given (goal_key task.given turn) log false = subst (IsAsked task.given (goal_key task.given turn) log) unasked at.asked in
    let whole = below_all task.given (goal_key task.given turn) (goal_key task.given turn) log at.up_to (self_not_before (goal_key task.given turn)) in
    record {
      log = log;
      at = at;
      offered_there = goal_offered task.given at.is_task.some log turn goal is_goal at.up_to size (λ t lt ends. was t (earlier t lt (length task.given)) ends);
      ends = λ after n. ends after n whole size;
    }
  where
    earlier : (t : ℕ) → t < turn → (K : ℕ) → is_before (key t t K) (key turn turn K) ≡ true
    earlier t lt K = grind (arith, nat_tests)

    ends : (after : List offered.Entry) → IsNextLog log (record { key = goal_key task.given turn; clause = goal }) after → below (goal_key task.given turn) log ≡ log → length log ≡ turn → EndsAt task.given after turn
    ends after (inl same) whole size = ap (λ l. length (below (goal_key task.given turn) l)) same ∙ (ap length whole ∙ size)
    ends after (inr more) whole size =
        ap (λ l. length (below (goal_key task.given turn) l)) more
        ∙ (ap length (below_push (goal_key task.given turn) log (record { key = goal_key task.given turn; clause = goal }) (self_not_before (goal_key task.given turn))) ∙ (ap length whole ∙ size))

pub goal_step : (all : List Term) (task : Task) (old new : Walk) (turn : ℕ) (goal : Clause Term) (due : Option Entry) → IsWalked all task old (goal_key task.given turn) → task.asked ≡ false → length old.items.items ≤ turn → numbered task.given (length task.given) ≡ Some goal → new.budget ≡ old.budget → AreListed all new.items.items new.live
    → ((log : List offered.Entry) → TellLog all old.items.items log → IsOfferMade all log old.items.items new.items.items old.budget (record { key = goal_key task.given turn; clause = goal }) due) → HasOffered all (with_asked task true) new (behind_goal task.given turn) due
goal_step all task old new turn goal None w unasked few is_goal budget listed made =
    let g = goal_due all task old turn goal w unasked few is_goal in
    let e : offered.Entry = record { key = goal_key task.given turn; clause = goal } in
    let went = offer_step all task true old new g.log e g.at g.offered_there budget listed (λ after n. (turn, before_next (goal_key task.given turn), g.ends after n)) (made g.log g.at.tell) in
    (went.0, went.2)
goal_step all task old new turn goal (Some due) w unasked few is_goal budget listed made =
    let g = goal_due all task old turn goal w unasked few is_goal in
    due_step all task true old new g.log (record { key = goal_key task.given turn; clause = goal }) due g.at g.offered_there tt (made g.log g.at.tell)

-- from the last pair of a turn to its goal's key
pub turn_ends_step : (all : List Term) (task : Task) (walk : Walk) (turn earlier : ℕ) → 0 < turn → earlier ≡ turn → IsWalked all task walk (key turn earlier 1) → IsWalked all task walk (goal_key task.given turn)
turn_ends_step all task walk turn earlier some last w = go (subst (λ i. IsWalked all task walk (key turn i 1)) last w)
  where
    go : IsWalked all task walk (key turn turn 1) → IsWalked all task walk (goal_key task.given turn)
    go (log, at) = (
      log,
      record {
        is_task = at.is_task;
        budget = at.budget;
        tell = at.tell;
        listed = at.listed;
        up_to = turn_ends task.given at.is_task.some log turn some at.up_to;
        within = at.within;
        reached = at.reached;
        asked = asked_moved task.given (key turn turn 1) (goal_key task.given turn) log task.asked (λ k h. ascends k (length task.given) at.is_task.some h) (λ t h. none t (length task.given) h) at.asked;
      },
    )
      where
        ascends : (k : Key) (K : ℕ) → 0 < K → is_before k (key turn turn 1) ≡ true → is_before k (key turn turn K) ≡ true
        ascends k K pos h = grind (arith, nat_tests)

        none : (t K : ℕ) → is_before (key t t K) (key turn turn K) ≡ true → is_before (key t t K) (key turn turn 1) ≡ true
        none t K h = grind (arith, nat_tests)

-- from behind the goal's key to the next turn
pub turn_begins_step : (all : List Term) (task : Task) (walk : Walk) (turn : ℕ) → turn < length walk.items.items → IsWalked all task walk (behind_goal task.given turn) → IsWalked all task walk (key (turn + 1) 1 1)
turn_begins_step all task walk turn more (log, at) =
    let next_turn : suc turn ≡ turn + 1 = omega arith in
    subst (λ n. IsWalked all task walk (key n 1 1)) next_turn (
      log,
      record {
        is_task = at.is_task;
        budget = at.budget;
        tell = at.tell;
        listed = at.listed;
        up_to = turn_begins task.given at.is_task.some log turn at.up_to;
        within = at.within;
        reached = (let count = log_length all walk.items.items log at.tell in omega (arith, count, more));
        asked = asked_moved task.given (behind_goal task.given turn) (key (suc turn) 1 1) log task.asked (λ k h. ascends k (length task.given) h) (λ t h. none t (length task.given) at.is_task.some h) at.asked;
      },
    )
  where
    ascends : (k : Key) (K : ℕ) → is_before k (key turn turn (suc K)) ≡ true → is_before k (key (suc turn) 1 1) ≡ true
    ascends k K h = grind (arith, nat_tests)

    none : (t K : ℕ) → 0 < K → is_before (key t t K) (key (suc turn) 1 1) ≡ true → is_before (key t t K) (key turn turn (suc K)) ≡ true
    none t K some h = grind (arith, nat_tests)

-- from the end of a turn that isn't the last entry's to the next turn
pub next_turn_step : (all : List Term) (task : Task) (walk : Walk) (turn : ℕ) → turn < length walk.items.items → IsWalked all task walk (turn_end task turn) → IsWalked all task walk (key (turn + 1) 1 1)
next_turn_step all task walk turn more w = turn_begins_step all task walk turn more (go task.asked refl w)
  where
    go : (b : Bool) → task.asked ≡ b → IsWalked all task walk (cond b (behind_goal task.given turn) (goal_key task.given turn)) → IsWalked all task walk (behind_goal task.given turn)
    go true is w = w
    go false is w = goal_step_past all task walk turn w (inr more)

-- from the goal's key to the end of the turn, where the goal isn't due there
pub turn_end_step : (all : List Term) (task : Task) (walk : Walk) (turn : ℕ) → IsWalked all task walk (goal_key task.given turn) → IsWalked all task walk (turn_end task turn)
turn_end_step all task walk turn w = go task.asked refl
  where
    go : (b : Bool) → task.asked ≡ b → IsWalked all task walk (cond b (behind_goal task.given turn) (goal_key task.given turn))
    go true is = goal_step_past all task walk turn w (inl is)
    go false is = w

-- where no entry is left the log is closed
pub walk_closed : (all : List Term) (task : Task) (walk : Walk) (turn : ℕ) → turn ≡ length walk.items.items → IsWalked all task walk (behind_goal task.given turn) → IsClosedLog all task.given task.budget walk.items.items
walk_closed all task walk turn end (log, at) =
    let count = log_length all walk.items.items log at.tell in
    record {
      log = log;
      tell = at.tell;
      is_log = record { up_to = closed task.given at.is_task.some log turn (omega (arith, count, end)) at.up_to; within = at.within; cause = tt };
    }

-- what an offer made, where its answer is known
pub given_made : (all : List Term) (old new : Walk) (k : ℕ) (c : Clause Term) (found due : Option Entry) → found ≡ due
    → ((log : List offered.Entry) (at : Key) → TellLog all old.items.items log → IsOrigin log (Given k) at → IsOfferMade all log old.items.items new.items.items old.budget (record { key = at; clause = c }) found)
    → ((log : List offered.Entry) → TellLog all old.items.items log → IsOfferMade all log old.items.items new.items.items old.budget (record { key = key 0 0 k; clause = c }) due)
given_made all old new k c found due same made = λ log t. subst (IsOfferMade all log old.items.items new.items.items old.budget (record { key = key 0 0 k; clause = c })) same (made log (key 0 0 k) t (0, refl))

pub goal_made : (all : List Term) (given : List (Clause Term)) (old new : Walk) (turn count : ℕ) (c : Clause Term) (found due : Option Entry) → count ≡ length given → found ≡ due
    → ((log : List offered.Entry) (at : Key) → TellLog all old.items.items log → IsOrigin log (Given count) at → IsOfferMade all log old.items.items new.items.items old.budget (record { key = at; clause = c }) found)
    → ((log : List offered.Entry) → TellLog all old.items.items log → IsOfferMade all log old.items.items new.items.items old.budget (record { key = goal_key given turn; clause = c }) due)
goal_made all given old new turn count c found due last same made = λ log t. subst (IsOfferMade all log old.items.items new.items.items old.budget (record { key = goal_key given turn; clause = c })) same (made log (goal_key given turn) t (turn, ap (λ n. key turn turn n) (sym last)))

pub given_next : (all : List Term) (task : Task) (walk : Walk) (k : ℕ) → IsWalked all task walk (key 0 0 (suc k)) → IsWalked all task walk (key 0 0 (k + 1))
given_next all task walk k w = let number : suc k ≡ k + 1 = omega arith in subst (λ n. IsWalked all task walk (key 0 0 n)) number w

pub given_done : (all : List Term) (task : Task) (walk : Walk) (k : ℕ) → k ≡ length task.given → IsWalked all task walk (key 0 0 k) → IsWalked all task walk (goal_key task.given 0)
given_done all task walk k last w = subst (λ n. IsWalked all task walk (key 0 0 n)) last w

-- where nothing stops it the walk has come to the key
pub gone_on : (all : List Term) (task : Task) (walk : Walk) (at : Key) (due : Option Entry) → due ≡ None → HasOffered all task walk at due → IsWalked all task walk at
gone_on all task walk at due none h = subst (λ (o : Option Entry). HasOffered all task walk at o) none h

pub gone_by : (all : List Term) (task : Task) (walk : Walk) (at : Key) (stop : Option Stop) → stop ≡ None → HasPassed all task walk at stop → IsWalked all task walk at
gone_by all task walk at stop none h = subst (λ (o : Option Stop). HasPassed all task walk at o) none h

-- a walk that arrives at the end of a turn where the goal wasn't offered stands at the goal's key
pub arrived_unasked : (all : List Term) (task : Task) (walk : Walk) (stop : Option Stop) → task.asked ≡ false → HasArrived all task walk stop → HasPassed all task walk (goal_key task.given (length walk.items.items)) stop
arrived_unasked all task walk stop unasked h =
    subst (λ (b : Bool). HasPassed all task walk (cond b (behind_goal task.given (length walk.items.items)) (goal_key task.given (length walk.items.items))) stop) unasked h

-- where the goal was offered it is at the end of the log
pub arrived_asked : (all : List Term) (task : Task) (walk : Walk) (stop : Option Stop) → task.asked ≡ true → HasArrived all task walk stop → HasEnded all task walk stop
arrived_asked all task walk None asked h =
    walk_closed all task walk (length walk.items.items) refl (subst (λ (b : Bool). IsWalked all task walk (cond b (behind_goal task.given (length walk.items.items)) (goal_key task.given (length walk.items.items)))) asked h)
arrived_asked all task walk (Some stop) asked h = h

-- a stop before the goal is one of the whole walk
pub stopped_early : (all : List Term) (task : Task) (entries : List Entry) (stop : Stop) → HasStopped all task entries stop → HasStopped all (with_asked task true) entries stop
stopped_early all task entries (Spent due) h = record { spent = h.spent; early = tt }
stopped_early all task entries (Large solved unsolved) h = record { large = h.large; early = tt }
