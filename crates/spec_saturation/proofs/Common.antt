-- The part of a log before its goal: whatever the goal it is the same, no two lists are that part, and each log has it.
use Rattle.std.proofs.Common.{◌≡◌, ◌⊎◌, ◌∙◌, ℕ, zero, suc, ◌+◌, ◌<◌, ◌≤◌, Bool, true, false, Option, Some, None, List, [], ◌∷◌, length, refl, ap, sym, subst, inl, inr, true≢false, arith}
use Rattle.std.specs.Prelude.{slice_get}
use Rattle.std.proofs.lemmas.Bool.{cases_lt}
use Rattle.std.proofs.lemmas.Bool.Decides.{nat_tests}
use Rattle.spec_terms.specs.Term.{Term}
use Rattle.spec_calculus.specs.Points.{numbered}
use Rattle.spec_clauses.specs.Fact.{Clause, Bad}
use Rattle.spec_clauses.proofs.Answers.{one_answer}
use Rattle.spec_saturation.specs.Key.{Key, key, is_before, Entry, below}
use Rattle.spec_saturation.specs.Log.{IsOffered, IsNew, goal_key, EndsAt}
use Rattle.spec_saturation.specs.End.{End, Closed, Spent, TooLarge, end_key, IsBeforeEnd, IsLogUpTo, IsCause, IsLog}
use Rattle.spec_saturation.specs.Common.{with_goal, CommonEnd, Ready, Ended, IsAfterEnd, IsReady, IsEndedEarly, IsPart, IsCommonLog, GoesOn}
use Rattle.spec_saturation.proofs.Keys.{never_before_itself, before_trans}
use Rattle.spec_saturation.proofs.Cuts.{below_below}
use Rattle.spec_saturation.proofs.Closing.{below_length, goal_before}
use Rattle.spec_saturation.proofs.Uniqueness.{IsWithinEnd, one_log_up_to, log_below, ends_together, one_log}
use Rattle.spec_saturation.proofs.Moving.{below_all, before_not_before, self_not_before}

-- lists of given clauses of one length that are the same but for the last, the goal
pub record DifferInGoal (given other : List (Clause Term)) : Type 0 where
  pub size : length given ≡ length other
  pub same : (n : ℕ) → n < length given → numbered given n ≡ numbered other n

pub with_goal_length : (clauses : List (Clause Term)) (goal : Clause Term) → length (with_goal clauses goal) ≡ suc (length clauses)
with_goal_length [] goal = refl
with_goal_length (c ∷ cs) goal = ap (λ n. suc n) (with_goal_length cs goal)

goals_differ : (clauses : List (Clause Term)) (goal other : Clause Term) → DifferInGoal (with_goal clauses goal) (with_goal clauses other)
goals_differ clauses goal other = record {
  size = with_goal_length clauses goal ∙ sym (with_goal_length clauses other);
  same = λ n few. at n (let size = with_goal_length clauses goal in omega (arith, few, size));
}
  where
    place : (cs : List (Clause Term)) (k : ℕ) → k < length cs → slice_get (with_goal cs goal) k ≡ slice_get (with_goal cs other) k
    place [] k few = absurd (omega (arith, few))
    place (c ∷ cs) zero few = refl
    place (c ∷ cs) (suc k) few = place cs k (omega (arith, few))

    at : (n : ℕ) → n ≤ length clauses → numbered (with_goal clauses goal) n ≡ numbered (with_goal clauses other) n
    at zero few = refl
    at (suc k) few = place clauses k (omega (arith, few))

turned : (given other : List (Clause Term)) → DifferInGoal given other → DifferInGoal other given
turned given other d =
    let size = d.size in
    record { size = sym size; same = λ n few. sym (d.same n (omega (arith, few, size))) }

-- an offer that isn't the goal's is one with each goal
offer_shared : (given other : List (Clause Term)) (log : List Entry) (e : Entry) → DifferInGoal given other → ((turn : ℕ) → e.key ≡ goal_key given turn → EndsAt given log turn → ⊥) → IsOffered given (below e.key log) e → IsOffered other (below e.key log) e
offer_shared given other log e d no_goal (inl x) =
    let size = d.size in
    let few = x.no_goal in
    inl (record { number = x.number; no_goal = omega (arith, few, size); at = x.at; clause = sym (d.same x.number few) ∙ x.clause })
offer_shared given other log e d no_goal (inr (inl x)) = inr (inl x)
offer_shared given other log e d no_goal (inr (inr x)) =
    let part : below (goal_key given x.turn) (below e.key log) ≡ below (goal_key given x.turn) log = below_below (goal_key given x.turn) e.key log (λ j h. subst (λ k. is_before j k ≡ true) (sym x.at) h) in
    absurd (no_goal x.turn x.at (ap length (sym part) ∙ x.ends))

new_shared : (given other : List (Clause Term)) (log : List Entry) (e : Entry) → DifferInGoal given other → ((turn : ℕ) → e.key ≡ goal_key given turn → EndsAt given log turn → ⊥) → IsNew given log e → IsNew other log e
new_shared given other log e d no_goal new = record { offered = offer_shared given other log e d no_goal new.offered; uncovered = new.uncovered }

-- the turns at which the entries end don't depend on the goal
ends_shared : (given other : List (Clause Term)) (log : List Entry) (turn : ℕ) → DifferInGoal given other → EndsAt given log turn → EndsAt other log turn
ends_shared given other log turn d ends = subst (λ n. length (below (key turn turn n) log) ≡ turn) d.size ends

-- no turn at which the entries end has the goal's key before the end
abbrev NoGoalBefore : List (Clause Term) → Option Key → List Entry → Type 0
NoGoalBefore given end log = (turn : ℕ) → IsBeforeEnd (goal_key given turn) end → EndsAt given log turn → ⊥

no_goal_shared : (given other : List (Clause Term)) (end : Option Key) (log : List Entry) → DifferInGoal given other → NoGoalBefore given end log → NoGoalBefore other end log
no_goal_shared given other end log d none turn early ends =
    none turn (subst (λ n. IsBeforeEnd (key turn turn n) end) (sym d.size) early) (ends_shared other given log turn (turned given other d) ends)

-- a log up to an end is that with each goal, where the goal isn't due before the end
up_to_shared : (given other : List (Clause Term)) (end : Option Key) (log : List Entry) → DifferInGoal given other → NoGoalBefore given end log → IsLogUpTo given end log → IsLogUpTo other end log
up_to_shared given other end log d none a = record {
  sorted = a.sorted;
  early = a.early;
  sound = λ e h. new_shared given other log e d (λ turn at. none turn (subst (λ k. IsBeforeEnd k end) at (a.early e h))) (a.sound e h);
  complete = λ e early new. a.complete e early
      (new_shared other given log e (turned given other d) (λ turn at. no_goal_shared given other end log d none turn (subst (λ k. IsBeforeEnd k end) at early)) new);
  no_large = a.no_large;
}

pub turn_before : (given : List (Clause Term)) (n turn : ℕ) → is_before (goal_key given n) (goal_key given turn) ≡ true → n < turn
turn_before given n turn h = go n turn (length given) h
  where
    go : (n turn K : ℕ) → is_before (key n n K) (key turn turn K) ≡ true → n < turn
    go n turn K h = grind (arith, nat_tests)

-- a key after the end isn't before it
after_no_before : (k : Key) (end : Option Key) → IsAfterEnd k end → IsBeforeEnd k end → ⊥
after_no_before k None after before = after
after_no_before k (Some end) after before = never_before_itself k (before_trans k end k before after)

after_end_moved : (given other : List (Clause Term)) (n : ℕ) (end : Option Key) → DifferInGoal given other → IsAfterEnd (goal_key given n) end → IsAfterEnd (goal_key other n) end
after_end_moved given other n end d after = subst (λ size. IsAfterEnd (key n n size) end) d.size after

ready_shared : (given other : List (Clause Term)) (budget : ℕ) (log : List Entry) (turn : ℕ) → DifferInGoal given other → IsReady given budget log turn → IsReady other budget log turn
ready_shared given other budget log turn d r = record {
  up_to = subst (λ size. IsLogUpTo other (Some (key turn turn size)) log) d.size
      (up_to_shared given other (Some (goal_key given turn)) log d (λ n early. r.first n (turn_before given n turn early)) r.up_to);
  within = r.within;
  ends = ends_shared given other log turn d r.ends;
  first = λ n few ends. r.first n few (ends_shared other given log n (turned given other d) ends);
}

cause_shared : (given other : List (Clause Term)) (budget : ℕ) (log : List Entry) (end : End) → DifferInGoal given other → ((n : ℕ) → EndsAt given log n → IsAfterEnd (goal_key given n) (end_key end)) → IsCause given budget log end → IsCause other budget log end
cause_shared given other budget log Closed d early cause = tt
cause_shared given other budget log (Spent due) d early cause =
    (cause.0, new_shared given other log due d (λ turn at ends. never_before_itself due.key (subst (λ k. is_before due.key k ≡ true) (sym at) (early turn ends))) cause.1)
cause_shared given other budget log (TooLarge m i) d early cause = cause

ended_shared : (given other : List (Clause Term)) (budget : ℕ) (log : List Entry) (end : End) → DifferInGoal given other → IsEndedEarly given budget log end → IsEndedEarly other budget log end
ended_shared given other budget log end d r = record {
  is_log = record {
    up_to = up_to_shared given other (end_key end) log d (λ n before ends. after_no_before (goal_key given n) (end_key end) (r.early n ends) before) r.is_log.up_to;
    within = r.is_log.within;
    cause = cause_shared given other budget log end d r.early r.is_log.cause;
  };
  early = λ n ends. after_end_moved given other n (end_key end) d (r.early n (ends_shared other given log n (turned given other d) ends));
}

part_shared : (given other : List (Clause Term)) (budget : ℕ) (log : List Entry) (end : CommonEnd) → DifferInGoal given other → IsPart given budget log end → IsPart other budget log end
part_shared given other budget log (Ready turn) d part = ready_shared given other budget log turn d part
part_shared given other budget log (Ended end) d part = ended_shared given other budget log end d part

-- what is the part before one goal is so before each
pub any_goal : (clauses : List (Clause Term)) (goal : Clause Term) (budget : ℕ) (log : List Entry) (end : CommonEnd) → IsPart (with_goal clauses goal) budget log end → IsCommonLog clauses budget log end
any_goal clauses goal budget log end part = λ other. part_shared (with_goal clauses goal) (with_goal clauses other) budget log end (goals_differ clauses goal other) part

-- The part where the goal is due is what stands below the goal's key in a list that is the log past that key, and the
-- entries of that list end there too.
ready_below : (given : List (Clause Term)) (budget : ℕ) (log other : List Entry) (end : Option Key) (turn : ℕ) → IsReady given budget log turn → IsWithinEnd (goal_key given turn) end → IsLogUpTo given end other → (log ≡ below (goal_key given turn) other) × EndsAt given other turn
ready_below given budget log other end turn r within up_to =
    let same : log ≡ below (goal_key given turn) other = one_log_up_to one_answer given (Some (goal_key given turn)) log (below (goal_key given turn) other) r.up_to (log_below given end other (goal_key given turn) within up_to) in
    let whole : below (goal_key given turn) log ≡ log = below_all given (goal_key given turn) (goal_key given turn) log r.up_to (self_not_before (goal_key given turn)) in
    (same, ap length (sym same) ∙ (ap length (sym whole) ∙ r.ends))

-- a key that the end isn't before is within it
within_unless : (k end : Key) → is_before end k ≡ false → IsWithinEnd k (Some end)
within_unless k end not j before = before_not_before j k end before not

-- the log has no end before the goal that is due
not_ended : (given : List (Clause Term)) (budget : ℕ) (log other : List Entry) (turn : ℕ) (end : End) → IsReady given budget log turn → IsEndedEarly given budget other end → ⊥
not_ended given budget log other turn end r e = go (end_key end) refl
  where
    goal : Key
    goal = goal_key given turn

    late : IsWithinEnd goal (end_key end) → IsAfterEnd goal (end_key end)
    late within = e.early turn (ready_below given budget log other (end_key end) turn r within e.is_log.up_to).1

    go : (k : Option Key) → end_key end ≡ k → ⊥
    go None is = subst (IsAfterEnd goal) is (late (subst (IsWithinEnd goal) (sym is) (λ j h. tt)))
    go (Some k) is = at (is_before k goal) refl
      where
        at : (b : Bool) → is_before k goal ≡ b → ⊥
        at true before = ends_together one_answer given budget log other (Some goal) end k is before r.up_to r.within e.is_log
        at false not =
            let after : is_before k goal ≡ true = subst (IsAfterEnd goal) is (late (subst (IsWithinEnd goal) (sym is) (within_unless goal k not))) in
            true≢false (sym after ∙ not)

-- the goal is due at one turn
not_ready_before : (given : List (Clause Term)) (budget : ℕ) (log other : List Entry) (turn later : ℕ) → turn < later → IsReady given budget log turn → IsReady given budget other later → ⊥
not_ready_before given budget log other turn later h a b =
    b.first turn h (ready_below given budget log other (Some (goal_key given later)) turn a (λ j before. before_trans j (goal_key given turn) (goal_key given later) before (goal_before given turn later h)) b.up_to).1

one_ready : (given : List (Clause Term)) (budget : ℕ) (log other : List Entry) (turn later : ℕ) → IsReady given budget log turn → IsReady given budget other later → (log ≡ other) × (Ready turn ≡ Ready later)
one_ready given budget log other turn later a b = elim (cases_lt turn later) as (λ _. (log ≡ other) × (Ready turn ≡ Ready later)) [
  | inl less ↦ absurd (not_ready_before given budget log other turn later less a b)
  | inr more ↦ elim (cases_lt later turn) as (λ _. (log ≡ other) × (Ready turn ≡ Ready later)) [
    | inl less ↦ absurd (not_ready_before given budget other log later turn less b a)
    | inr few ↦ (
        let same : turn ≡ later = omega (arith, more, few) in
        (one_log_up_to one_answer given (Some (goal_key given later)) log other (subst (λ n. IsLogUpTo given (Some (goal_key given n)) log) same a.up_to) b.up_to, ap Ready same))
  ]
]

one_part : (given : List (Clause Term)) (budget : ℕ) (log other : List Entry) (end stop : CommonEnd) → IsPart given budget log end → IsPart given budget other stop → (log ≡ other) × (end ≡ stop)
one_part given budget log other (Ready turn) (Ready later) a b = one_ready given budget log other turn later a b
one_part given budget log other (Ready turn) (Ended stop) a b = absurd (not_ended given budget log other turn stop a b)
one_part given budget log other (Ended end) (Ready later) a b = absurd (not_ended given budget other log later end b a)
one_part given budget log other (Ended end) (Ended stop) a b =
    let same = one_log one_answer given budget log other end stop a.is_log b.is_log in (same.0, ap Ended same.1)

-- no two lists are the part before the goal, whatever that is
pub one_common_log : (clauses : List (Clause Term)) (budget : ℕ) (log other : List Entry) (end stop : CommonEnd) → IsCommonLog clauses budget log end → IsCommonLog clauses budget other stop → (log ≡ other) × (end ≡ stop)
one_common_log clauses budget log other end stop a b = one_part (with_goal clauses some_goal) budget log other end stop (a some_goal) (b some_goal)
  where
    some_goal : Clause Term
    some_goal = record { hypotheses = []; diffs = []; conclusion = Bad [] }

module _ (given : List (Clause Term)) (budget : ℕ) (log : List Entry) (end : End) (is_log : IsLog given budget log end) where
  -- each turn below this one at which the entries end has its goal's key after the end
  abbrev LateBelow : ℕ → Type 0
  LateBelow turn = (n : ℕ) → n < turn → EndsAt given log n → IsAfterEnd (goal_key given n) (end_key end)

  -- the first turn at which the entries end, if its goal's key isn't after the end
  record FirstTurn : Type 0 where
    turn : ℕ
    ends : EndsAt given log turn
    within : IsWithinEnd (goal_key given turn) (end_key end)
    first : LateBelow turn

  after_or_within : (k : Key) (o : Option Key) → IsAfterEnd k o ⊎ IsWithinEnd k o
  after_or_within k None = inr (λ j h. tt)
  after_or_within k (Some stop) = go (is_before stop k) refl
    where
      go : (b : Bool) → is_before stop k ≡ b → IsAfterEnd k (Some stop) ⊎ IsWithinEnd k (Some stop)
      go true after = inl after
      go false not = inr (within_unless k stop not)

  ends_or_not : (turn : ℕ) → EndsAt given log turn ⊎ (EndsAt given log turn → ⊥)
  ends_or_not turn = elim (cases_lt (length (below (goal_key given turn) log)) turn) as (λ _. EndsAt given log turn ⊎ (EndsAt given log turn → ⊥)) [
    | inl less ↦ inr (λ same. (omega (arith, less, same)))
    | inr more ↦ elim (cases_lt turn (length (below (goal_key given turn) log))) as (λ _. EndsAt given log turn ⊎ (EndsAt given log turn → ⊥)) [
      | inl less ↦ inr (λ same. (omega (arith, less, same)))
      | inr few ↦ inl (omega (arith, more, few))
    ]
  ]

  -- one turn more of which it is known
  late_at : (turn : ℕ) → LateBelow turn → (EndsAt given log turn → IsAfterEnd (goal_key given turn) (end_key end)) → LateBelow (suc turn)
  late_at turn late here n few ends = elim (cases_lt n turn) as (λ _. IsAfterEnd (goal_key given n) (end_key end)) [
    | inl less ↦ late n less ends
    | inr more ↦ (let same : turn ≡ n = omega (arith, few, more) in subst (λ m. IsAfterEnd (goal_key given m) (end_key end)) same (here (subst (EndsAt given log) (sym same) ends)))
  ]

  -- of all turns it is known, since no more than all entries end
  late_all : (turn : ℕ) → LateBelow turn → length log < turn → (n : ℕ) → EndsAt given log n → IsAfterEnd (goal_key given n) (end_key end)
  late_all turn late enough n ends = late n (let few = below_length (goal_key given n) log in omega (arith, few, ends, enough)) ends

  -- there is one, or no goal's key comes before the end
  abbrev Found : Type 0
  Found = FirstTurn ⊎ ((n : ℕ) → EndsAt given log n → IsAfterEnd (goal_key given n) (end_key end))

  find_turn : (most turn : ℕ) → LateBelow turn → length log < turn + most → Found
  find_turn zero turn late enough = inr (late_all turn late (omega (arith, enough)))
  find_turn (suc most) turn late enough = elim (ends_or_not turn) as (λ _. Found) [
    | inl ends ↦ elim (after_or_within (goal_key given turn) (end_key end)) as (λ _. Found) [
      | inl after ↦ find_turn most (suc turn) (late_at turn late (λ _. after)) (omega (arith, enough))
      | inr within ↦ inl (record { turn = turn; ends = ends; within = within; first = late })
    ]
    | inr not ↦ find_turn most (suc turn) (late_at turn late (λ ends. absurd (not ends))) (omega (arith, enough))
  ]

  -- at that turn the goal is due
  ready_at : (f : FirstTurn) → IsReady given budget (below (goal_key given f.turn) log) f.turn
  ready_at f = record {
    up_to = log_below given (end_key end) log goal f.within is_log.up_to;
    within = (let few = below_length goal log in let enough = is_log.within in omega (arith, few, enough));
    ends = ap length (below_below goal goal log (λ j h. h)) ∙ f.ends;
    first = λ n few ends.
        let earlier : is_before (goal_key given n) goal ≡ true = goal_before given n f.turn few in
        let part : below (goal_key given n) (below goal log) ≡ below (goal_key given n) log = below_below (goal_key given n) goal log (λ j h. before_trans j (goal_key given n) goal h earlier) in
        after_no_before (goal_key given n) (end_key end) (f.first n few (ap length (sym part) ∙ ends)) (f.within (goal_key given n) earlier);
  }
    where
      goal : Key
      goal = goal_key given f.turn

  -- a log has a part before its goal, and goes on from there
  pub part_of_log : (part : List Entry) × (stop : CommonEnd) × IsPart given budget part stop × GoesOn given part stop log end
  part_of_log = go (find_turn (suc (length log)) 0 (λ n few. absurd (omega (arith, few))) (omega arith))
    where
      go : Found → (part : List Entry) × (stop : CommonEnd) × IsPart given budget part stop × GoesOn given part stop log end
      go (inl f) = (below (goal_key given f.turn) log, Ready f.turn, ready_at f, refl)
      go (inr late) = (log, Ended end, record { is_log = is_log; early = late }, (refl, refl))

-- each log with a goal behind the clauses goes on from the common part, or is it
pub common_part : (clauses : List (Clause Term)) (goal : Clause Term) (budget : ℕ) (log : List Entry) (end : End) → IsLog (with_goal clauses goal) budget log end
    → (part : List Entry) × (stop : CommonEnd) × IsCommonLog clauses budget part stop × GoesOn (with_goal clauses goal) part stop log end
common_part clauses goal budget log end is_log =
    let found = part_of_log (with_goal clauses goal) budget log end is_log in
    (found.0, found.1, any_goal clauses goal budget found.0 found.1 found.2, found.3)
