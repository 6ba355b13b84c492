-- Pairs of entries are due pairs of the log, and the walk goes on from pair to pair.
use Rattle.std.proofs.Common.{◌≡◌, ◌⊎◌, ◌∙◌, ℕ, zero, suc, ◌+◌, ◌-◌, ◌<◌, ◌≤◌, Bool, true, Option, Some, None, List, [], ◌∷◌, ◌++◌, length, map, get_or, refl, ap, sym, subst, inl, inr, true≢false, length-append, arith}
use Rattle.std.specs.Prelude.{slice_get}
use Rattle.std.proofs.lemmas.Bool.{cases_lt}
use Rattle.std.proofs.lemmas.Bool.Decides.{nat_tests}
use Rattle.spec_terms.specs.Term.{Term}
use Rattle.spec_calculus.specs.Points.{numbered}
use Rattle.spec_clauses.specs.Fact.{Clause}
use Rattle.spec_clauses.specs.Selection.{select, is_solved}
use Rattle.spec_clauses.specs.Resolvents.{Answer, NoUnifier, Large, Resolvents, Resolves}
use Rattle.spec_saturation.specs.Key.{Key, key, is_before}
use Rattle.spec_saturation.specs.Key as offered
use Rattle.spec_saturation.specs.Log.{IsBeaten, IsLive, IsDue, Gives, IsOffered, goal_key}
use Rattle.spec_saturation.specs.End.{IsLogUpTo}
use Rattle.spec_saturation.proofs.Keys.{parts_of_key}
use Rattle.spec_saturation.proofs.Pairs.{live_behind}
use Rattle.spec_saturation.proofs.Moving.{below_all, self_not_before}
use Rattle.spec_saturation.proofs.Turns.{pair_undue, pair_apart, pair_offered, gives_push}
use Rattle.term_tree.specs.Bank.{Grows}
use Rattle.clause_form.specs.Seen.{clause_at, NameClauses, IdClause}
use Rattle.clause_resolve.specs.declared.resolving.Resolved.{Resolved}
use Rattle.clause_resolve.specs.declared.resolving.Resolved.TheVariants as resolving
use Rattle.log_entries.specs.declared.log.Entry.{Entry}
use Rattle.log_entries.specs.declared.log.Origin.{Origin}
use Rattle.log_entries.specs.declared.log.Origin.TheVariants.{Resolvent}
use Rattle.log_entries.specs.declared.walk.Walk.{Walk}
use Rattle.log_walks.specs.declared.stops.Pair.{Pair}
use Rattle.log_entries.specs.Logs.{IsSolvedAt, IsOrigin, TellEntries, TellLog}
use Rattle.clause_form.specs.Fit.{AreFit}
use Rattle.log_entries.specs.Beating.{clauses_of, IsOfferMade}
use Rattle.log_walks.proofs.Fitting.{walked_grows}
use Rattle.log_entries.specs.Live.{AreListed}
use Rattle.log_walks.specs.Pairs.{major, minor, IsDuePair, NoDuePair, ArePassedBy, AllArePassedBy, IsFirstPair, GivesAnswer, IsMadeBy, IsFoundFor, AreSameOrMore}
use Rattle.log_walks.specs.Walked.{Task, IsAsked, IsAt, IsWalked, HasSpent, HasLarge}
use Rattle.log_entries.proofs.Listing.{same_clause}
use Rattle.log_entries.proofs.Telling.{log_length, unbeaten_none, none_unbeaten, IsSolvedAt-push, TellLog-grows}
use Rattle.log_walks.proofs.Stepping.{IsNextLog, asked_on, asked_moved, asked_early, offer_step, due_step}

-- the entry that tells what is live in the log
record LiveEntry (all : List Term) (entries : List Entry) (number : ℕ) (c : Clause Term) : Type 0 where
  entry : Entry
  at : numbered entries number ≡ Some entry
  live : entry.by ≡ None
  clause : clause_at all entry.clause ≡ c

live_entry : (all : List Term) (log : List offered.Entry) (n : ℕ) (entries : List Entry) (es : List offered.Entry) (k : ℕ) (c : Clause Term) → TellEntries all log n entries es → IsLive es k c → LiveEntry all entries k c
live_entry all log n entries es zero c t live = let at = live.at in cc
live_entry all log n [] [] (suc k) c t live = let at = live.at in cc
live_entry all log n [] (e ∷ es) (suc k) c t live = absurd t
live_entry all log n (x ∷ xs) [] (suc k) c t live = absurd t
live_entry all log n (x ∷ xs) (e ∷ es) (suc zero) c t live =
    let at = live.at in
    let same : e ≡ live.entry = cc in
    let clause : e.clause ≡ c = ap (λ y. y.clause) same ∙ live.clause in
    record { entry = x; at = refl; live = unbeaten_none (suc n) es e.clause x.by t.1 (λ b. live.unbeaten (subst (IsBeaten es) clause b)); clause = t.0.clause.is ∙ clause }
live_entry all log n (x ∷ xs) (e ∷ es) (suc (suc k)) c t live =
    let later = live_entry all log (suc n) xs es (suc k) c t.2 (record { entry = live.entry; at = live.at; clause = live.clause; unbeaten = live.unbeaten }) in
    record { entry = later.entry; at = later.at; live = later.live; clause = later.clause }

-- and what the entry tells that is live
entry_live : (all : List Term) (log : List offered.Entry) (n : ℕ) (entries : List Entry) (es : List offered.Entry) (k : ℕ) (x : Entry) → TellEntries all log n entries es → numbered entries k ≡ Some x → x.by ≡ None → IsLive es k (clause_at all x.clause)
entry_live all log n entries es zero x t at live = cc
entry_live all log n [] es (suc k) x t at live = cc
entry_live all log n (y ∷ ys) [] (suc k) x t at live = absurd t
entry_live all log n (y ∷ ys) (e ∷ es) (suc zero) x t at live =
    let same : y ≡ x = cc in
    let by : y.by ≡ None = ap (λ z. z.by) same ∙ live in
    subst (λ (z : Entry). IsLive (e ∷ es) 1 (clause_at all z.clause)) same
    (record { entry = e; at = refl; clause = sym t.0.clause.is; unbeaten = λ b. none_unbeaten (suc n) es e.clause y.by t.1 by (subst (IsBeaten es) t.0.clause.is b) })
entry_live all log n (y ∷ ys) (e ∷ es) (suc (suc k)) x t at live =
    live_behind e es (suc k) (clause_at all x.clause) (entry_live all log (suc n) ys es (suc k) x t.2 at live)

-- where none is found, none is due
undue : (all : List Term) (log : List offered.Entry) (entries : List Entry) (m i : ℕ) → TellLog all entries log → NoDuePair all entries m i → (s u : Clause Term) → IsDue log m i s u → ⊥
undue all log entries m i t none s u due = go due.live
  where
    apart : (x y : Entry) → clause_at all x.clause ≡ s → clause_at all y.clause ≡ u → is_solved (clause_at all x.clause).hypotheses ≡ is_solved (clause_at all y.clause).hypotheses → ⊥
    apart x y p q same = true≢false (sym due.left_solved ∙ (ap (λ c. is_solved c.hypotheses) (sym p) ∙ (same ∙ (ap (λ c. is_solved c.hypotheses) q ∙ due.right_unsolved))))

    go : (IsLive log i s × IsLive log m u) ⊎ (IsLive log m s × IsLive log i u) → ⊥
    go (inl h) =
        let x = live_entry all log 1 entries log i s t h.0 in
        let y = live_entry all log 1 entries log m u t h.1 in
        apart x.entry y.entry x.clause y.clause (sym (none y.entry x.entry y.at x.at y.live x.live))
    go (inr h) =
        let x = live_entry all log 1 entries log m s t h.0 in
        let y = live_entry all log 1 entries log i u t h.1 in
        apart x.entry y.entry x.clause y.clause (none x.entry y.entry x.at y.at x.live y.live)

-- what is found is due
pub found_due : (all : List Term) (log : List offered.Entry) (entries : List Entry) (m i : ℕ) (pair : Pair) (t : TellLog all entries log) (due : IsDuePair all entries m i pair) → IsDue log m i (clause_at all due.solved.clause) (clause_at all due.unsolved.clause)
found_due all log entries m i pair t due = record {
  order = due.order;
  left_solved = due.left_solved;
  right_unsolved = due.right_unsolved;
  live = go (cases_lt pair.solved pair.unsolved);
}
  where
    solved : IsLive log pair.solved (clause_at all due.solved.clause)
    solved = entry_live all log 1 entries log pair.solved due.solved t due.solved_at due.solved_live

    unsolved : IsLive log pair.unsolved (clause_at all due.unsolved.clause)
    unsolved = entry_live all log 1 entries log pair.unsolved due.unsolved t due.unsolved_at due.unsolved_live

    go : (pair.solved < pair.unsolved) ⊎ (pair.unsolved ≤ pair.solved) → (IsLive log i (clause_at all due.solved.clause) × IsLive log m (clause_at all due.unsolved.clause)) ⊎ (IsLive log m (clause_at all due.solved.clause) × IsLive log i (clause_at all due.unsolved.clause))
    go (inl lt) =
        let later = due.is_later in
        let earlier = due.is_earlier in
        let p : pair.solved ≡ i = omega (arith, lt, later, earlier) in
        let q : pair.unsolved ≡ m = omega (arith, lt, later, earlier) in
        inl (subst (λ k. IsLive log k (clause_at all due.solved.clause)) p solved, subst (λ k. IsLive log k (clause_at all due.unsolved.clause)) q unsolved)
    go (inr ge) =
        let later = due.is_later in
        let earlier = due.is_earlier in
        let p : pair.solved ≡ m = omega (arith, ge, later, earlier) in
        let q : pair.unsolved ≡ i = omega (arith, ge, later, earlier) in
        inr (subst (λ k. IsLive log k (clause_at all due.solved.clause)) p solved, subst (λ k. IsLive log k (clause_at all due.unsolved.clause)) q unsolved)

-- the solved one of a pair is solved in the log
pub found_solved : (all : List Term) (log : List offered.Entry) (entries : List Entry) (m i : ℕ) (pair : Pair) (t : TellLog all entries log) (due : IsDuePair all entries m i pair) → IsSolvedAt log pair.solved
found_solved all log entries m i pair t due =
    let live = entry_live all log 1 entries log pair.solved due.solved t due.solved_at due.solved_live in
    (live.entry, live.at, ap (λ c. is_solved c.hypotheses) live.clause ∙ due.left_solved)

-- what a found pair gives the log's pair gives
pub found_gives : (given : List (Clause Term)) (all : List Term) (log : List offered.Entry) (entries : List Entry) (pair : Pair) (answer : Answer) → IsLogUpTo given (Some (key (major pair) (minor pair) 1)) log → TellLog all entries log → GivesAnswer all entries pair answer → Gives log (major pair) (minor pair) answer
found_gives given all log entries pair answer up_to t g =
    let m = major pair in
    let i = minor pair in
    let whole = below_all given (key m i 1) (key m i 1) log up_to (self_not_before (key m i 1)) in
    record {
      solved = clause_at all g.due.solved.clause;
      unsolved = clause_at all g.due.unsolved.clause;
      at = g.at;
      is_due = subst (λ es. IsDue es m i (clause_at all g.due.solved.clause) (clause_at all g.due.unsolved.clause)) (sym whole) (found_due all log entries m i pair t g.due);
      selected = g.selected;
      gives = g.give;
    }

-- behind a pair the goal is as due as it was
asked_next : (given : List (Clause Term)) (m i n : ℕ) (log : List offered.Entry) (asked : Bool) → 0 < length given → i < m → IsAsked given (key m i (suc n)) log asked → IsAsked given (key m (suc i) 1) log asked
asked_next given m i n log asked some order was = asked_moved given (key m i (suc n)) (key m (suc i) 1) log asked (λ k h. ascends k h) (λ t h. none t (length given) some h) was
  where
    ascends : (k : Key) → is_before k (key m i (suc n)) ≡ true → is_before k (key m (suc i) 1) ≡ true
    ascends k h = grind (arith, nat_tests)

    none : (t K : ℕ) → 0 < K → is_before (key t t K) (key m (suc i) 1) ≡ true → is_before (key t t K) (key m i (suc n)) ≡ true
    none t K some h = grind (arith, nat_tests)

moved : (all : List Term) (task : Task) (walk : Walk) (m i n : ℕ) (log : List offered.Entry) → i < m → IsAt all task walk (key m i (suc n)) log → IsLogUpTo task.given (Some (key m (suc i) 1)) log → IsWalked all task walk (key m (suc i) 1)
moved all task walk m i n log order at up_to = (
  log,
  record {
    is_task = at.is_task;
    budget = at.budget;
    tell = at.tell;
    listed = at.listed;
    up_to = up_to;
    within = at.within;
    reached = at.reached;
    asked = asked_next task.given m i n log task.asked at.is_task.some order at.asked;
  },
)

-- the next pair
behind : (all : List Term) (task : Task) (walk : Walk) (m i : ℕ) → IsWalked all task walk (key m (suc i) 1) → IsWalked all task walk (key m (i + 1) 1)
behind all task walk m i w = let next : suc i ≡ i + 1 = omega arith in subst (λ j. IsWalked all task walk (key m j 1)) next w

-- a pair that isn't due is passed by
pub undue_step : (all : List Term) (task : Task) (walk : Walk) (m i : ℕ) → i < m → NoDuePair all walk.items.items m i → IsWalked all task walk (key m i 1) → IsWalked all task walk (key m (i + 1) 1)
undue_step all task walk m i order none (log, at) =
    behind all task walk m i (moved all task walk m i 0 log order at (pair_undue task.given at.is_task.some log m i order at.up_to (undue all log walk.items.items m i at.tell none)))

-- and so is one whose facts have no unifier
pub apart_step : (all : List Term) (task : Task) (walk : Walk) (pair : Pair) → GivesAnswer all walk.items.items pair NoUnifier → IsWalked all task walk (key (major pair) (minor pair) 1) → IsWalked all task walk (key (major pair) (minor pair + 1) 1)
apart_step all task walk pair g (log, w) =
    let m = major pair in
    let i = minor pair in
    behind all task walk m i (moved all task walk m i 0 log g.due.order w (pair_apart task.given w.is_task.some log m i g.due.order w.up_to (found_gives task.given all log walk.items.items pair NoUnifier w.up_to w.tell g)))

pass_step : (all : List Term) (task : Task) (walk : Walk) (m i : ℕ) → i < m → ArePassedBy all walk.items.items m i → IsWalked all task walk (key m i 1) → IsWalked all task walk (key m (i + 1) 1)
pass_step all task walk m i order (inl none) w = undue_step all task walk m i order none w
pass_step all task walk m i order (inr apart) w =
    let from : IsWalked all task walk (key (major apart.pair) (minor apart.pair) 1) = subst (λ k. IsWalked all task walk (key k (minor apart.pair) 1)) (sym apart.is_later) (subst (λ k. IsWalked all task walk (key m k 1)) (sym apart.is_earlier) w) in
    let to = apart_step all task walk apart.pair apart.gives from in
    subst (λ k. IsWalked all task walk (key k (i + 1) 1)) apart.is_later (subst (λ k. IsWalked all task walk (key (major apart.pair) (k + 1) 1)) apart.is_earlier to)

pub passed_by : (all : List Term) (task : Task) (walk : Walk) (m i j : ℕ) → i ≤ j → j ≤ m → AllArePassedBy all walk.items.items m i j → IsWalked all task walk (key m i 1) → IsWalked all task walk (key m j 1)
passed_by all task walk m i j order within none w =
    let there : i + (j - i) ≡ j = omega (arith, order) in
    subst (λ k. IsWalked all task walk (key m k 1)) there (go (j - i) (omega (arith, there, within)) (λ k from to. none k from (omega (arith, to, there))))
  where
    go : (n : ℕ) → i + n ≤ m → ((k : ℕ) → i ≤ k → k < i + n → ArePassedBy all walk.items.items m k) → IsWalked all task walk (key m (i + n) 1)
    go zero within none = let here : i ≡ i + 0 = omega arith in subst (λ k. IsWalked all task walk (key m k 1)) here w
    go (suc n) within none =
        let next : i + n + 1 ≡ i + suc n = omega arith in
        subst (λ k. IsWalked all task walk (key m k 1)) next
        (pass_step all task walk m (i + n) (omega (arith, within)) (none (i + n) (omega arith) (omega arith)) (go n (omega (arith, within)) (λ k from to. none k from (omega (arith, to)))))

-- up to the next due pair
pub next_walked : (all : List Term) (task : Task) (walk : Walk) (m i : ℕ) (pair : Pair) → IsFirstPair all walk.items.items m i pair → IsWalked all task walk (key m i 1) → IsWalked all task walk (key (major pair) (minor pair) 1)
next_walked all task walk m i pair first w =
    let order = first.due.order in
    subst (λ k. IsWalked all task walk (key k (minor pair) 1)) (sym first.due.is_later) (passed_by all task walk m i (minor pair) first.from_there (omega (arith, order)) first.none w)

pub next_due : (all : List Term) (entries : List Entry) (m i : ℕ) (pair : Pair) → IsFirstPair all entries m i pair → IsDuePair all entries (major pair) (minor pair) pair
next_due all entries m i pair first = subst (λ k. IsDuePair all entries k (minor pair) pair) (sym first.due.is_later) first.due

-- and on behind it
pub next_passed : (all now : List Term) (task : Task) (old walk : Walk) (m i k : ℕ) (pair : Pair) → IsFirstPair all old.items.items m i pair → k ≡ minor pair + 1 → IsWalked now task walk (key (major pair) (minor pair + 1) 1) → IsWalked now task walk (key m k 1)
next_passed all now task old walk m i k pair first is w =
    subst (λ j. IsWalked now task walk (key m j 1)) (sym is) (subst (λ j. IsWalked now task walk (key j (minor pair + 1) 1)) first.due.is_later w)

-- no goal has the key of a resolvent
not_goal : (given : List (Clause Term)) (m i k : ℕ) → i < m → (t : ℕ) → goal_key given t ≡ key m i k → ⊥
not_goal given m i k order t same =
    let p = parts_of_key (goal_key given t) (key m i k) same in
    let major = p.0 in let minor = p.1 in omega (arith, major, minor, order)

-- one that is too large ends the walk
pub large_step : (all : List Term) (task : Task) (walk : Walk) (pair : Pair) → GivesAnswer all walk.items.items pair Large → IsWalked all task walk (key (major pair) (minor pair) 1) → HasLarge all task walk.items.items pair.solved pair.unsolved
large_step all task walk pair g (log, w) = record {
  large = record {
    log = log;
    tell = w.tell;
    is_solved = found_solved all log walk.items.items (major pair) (minor pair) pair w.tell g.due;
    is_log = record {
      up_to = w.up_to;
      within = w.within;
      cause = found_gives task.given all log walk.items.items pair Large w.up_to w.tell g;
    };
  };
  early = asked_early task.given log (key (major pair) (minor pair) 1) task.asked (not_goal task.given (major pair) (minor pair) 1 g.due.order) w.asked;
}

-- the resolvent of a number is offered
resolvent_offered : (given : List (Clause Term)) (log : List offered.Entry) (m i k : ℕ) (cs : List (Clause Term)) (c : Clause Term) → Gives log m i (Resolvents cs) → numbered cs k ≡ Some c → IsOffered given log (record { key = key m i k; clause = c })
resolvent_offered given log m i k cs c gives at = inr (inl (record { resolvents = cs; gives = gives; clause = at }))

-- The first k resolvents of a pair are offered.
pub record IsOffering (all : List Term) (task : Task) (walk : Walk) (pair : Pair) (clauses : List IdClause) (k : ℕ) : Type 0 where
  pub log : List offered.Entry
  pub resolvents : List (Clause Term)
  pub at : IsAt all task walk (key (major pair) (minor pair) (suc k)) log
  pub order : minor pair < major pair
  pub gives : Gives log (major pair) (minor pair) (Resolvents resolvents)
  pub solved : IsSolvedAt log pair.solved
  pub name : NameClauses all clauses resolvents

pub offering_begins : (all : List Term) (task : Task) (walk : Walk) (pair : Pair) (clauses : List IdClause) → IsMadeBy all all walk.items.items pair clauses → IsWalked all task walk (key (major pair) (minor pair) 1) → IsOffering all task walk pair clauses 0
offering_begins all task walk pair clauses made (log, w) = record {
  log = log;
  resolvents = made.resolvents;
  at = w;
  order = made.gives.due.order;
  gives = found_gives task.given all log walk.items.items pair (Resolvents made.resolvents) w.up_to w.tell made.gives;
  solved = found_solved all log walk.items.items (major pair) (minor pair) pair w.tell made.gives.due;
  name = made.name;
}

pub offering_walked : (all : List Term) (task : Task) (walk : Walk) (pair : Pair) (clauses : List IdClause) (k : ℕ) → IsOffering all task walk pair clauses k → IsWalked all task walk (key (major pair) (minor pair) (suc k))
offering_walked all task walk pair clauses k o = (o.log, o.at)

named_number : (all : List Term) (clauses : List IdClause) (cs : List (Clause Term)) (k : ℕ) (c : IdClause) → map (clause_at all) clauses ≡ cs → c ≡ get_or clauses k c → k < length clauses → slice_get cs k ≡ Some (clause_at all c)
named_number all [] cs k c are is within = absurd (omega arith)
named_number all (d ∷ clauses) [] k c are is within = cc
named_number all (d ∷ clauses) (t ∷ ts) zero c are is within = let first : clause_at all d ≡ t = cc in ap Some (sym first ∙ ap (clause_at all) (sym is))
named_number all (d ∷ clauses) (t ∷ ts) (suc k) c are is within = let rest : map (clause_at all) clauses ≡ ts = cc in named_number all clauses ts k c rest is (omega arith)

-- what is offered of a pair as its resolvent
abbrev pub resolvent_origin : Pair → ℕ → Origin
resolvent_origin pair k = Resolvent (k + 1) pair.solved pair.unsolved

-- one more is offered
pub offering_step : (all : List Term) (task : Task) (old new : Walk) (pair : Pair) (clauses : List IdClause) (k : ℕ) (c : IdClause) → IsOffering all task old pair clauses k → c ≡ get_or clauses k c → k < length clauses → new.budget ≡ old.budget
    → AreListed all new.items.items new.live → ((log : List offered.Entry) (at : Key) → TellLog all old.items.items log → IsOrigin log (resolvent_origin pair k) at → IsOfferMade all log old.items.items new.items.items old.budget (record { key = at; clause = clause_at all c }) None) → IsOffering all task new pair clauses (k + 1)
offering_step all task old new pair clauses k c o is within kept listed made =
    let m = major pair in
    let i = minor pair in
    let e : offered.Entry = record { key = key m i (suc k); clause = clause_at all c } in
    let number : suc k ≡ k + 1 = omega arith in
    let origin : IsOrigin o.log (resolvent_origin pair k) (key m i (suc k)) = (ap (λ j. key m i j) number, o.solved, λ same. omega (arith, same, o.order)) in
    let offered_there = resolvent_offered task.given o.log m i (suc k) o.resolvents (clause_at all c) o.gives (named_number all clauses o.resolvents k c o.name.are is within) in
    let went = offer_step all task task.asked old new o.log e o.at offered_there kept listed
    (λ after n. asked_on task.given o.log after e task.asked (not_goal task.given m i (suc k) o.order) n o.at.asked) (made o.log (key m i (suc k)) o.at.tell origin) in
    record {
      log = went.0;
      resolvents = o.resolvents;
      at = subst (λ j. IsAt all task new (key m i (suc j)) went.0) number went.2;
      order = o.order;
      gives = gives_after went.0 e went.1 refl o.gives;
      solved = solved_after went.0 e went.1 o.solved;
      name = o.name;
    }
  where
    gives_after : (after : List offered.Entry) (e : offered.Entry) → IsNextLog o.log e after → e.key ≡ key (major pair) (minor pair) (suc k) → Gives o.log (major pair) (minor pair) (Resolvents o.resolvents) → Gives after (major pair) (minor pair) (Resolvents o.resolvents)
    gives_after after e (inl same) at g = subst (λ l. Gives l (major pair) (minor pair) (Resolvents o.resolvents)) (sym same) g
    gives_after after e (inr more) at g = subst (λ l. Gives l (major pair) (minor pair) (Resolvents o.resolvents)) (sym more) (gives_push o.log e (major pair) (minor pair) k (Resolvents o.resolvents) at g)

    solved_after : (after : List offered.Entry) (e : offered.Entry) → IsNextLog o.log e after → IsSolvedAt o.log pair.solved → IsSolvedAt after pair.solved
    solved_after after e (inl same) h = subst (λ l. IsSolvedAt l pair.solved) (sym same) h
    solved_after after e (inr more) h = subst (λ l. IsSolvedAt l pair.solved) (sym more) (IsSolvedAt-push o.log e pair.solved h)

-- or is due
pub offering_due : (all : List Term) (task : Task) (old new : Walk) (pair : Pair) (clauses : List IdClause) (k : ℕ) (c : IdClause) (due : Entry) → IsOffering all task old pair clauses k → c ≡ get_or clauses k c → k < length clauses
    → ((log : List offered.Entry) (at : Key) → TellLog all old.items.items log → IsOrigin log (resolvent_origin pair k) at → IsOfferMade all log old.items.items new.items.items old.budget (record { key = at; clause = clause_at all c }) (Some due)) → HasSpent all task new.items.items due
offering_due all task old new pair clauses k c due o is within made =
    let m = major pair in
    let i = minor pair in
    let number : suc k ≡ k + 1 = omega arith in
    due_step all task task.asked old new o.log (record { key = key m i (suc k); clause = clause_at all c }) due o.at (resolvent_offered task.given o.log m i (suc k) o.resolvents (clause_at all c) o.gives (named_number all clauses o.resolvents k c o.name.are is within))
    (asked_early task.given o.log (key m i (suc k)) task.asked (not_goal task.given m i (suc k) o.order) o.at.asked)
    (made o.log (key m i (suc k)) o.at.tell (ap (λ j. key m i j) number, o.solved, λ same. omega (arith, same, o.order)))

-- all are offered
pub offering_ends : (all : List Term) (task : Task) (walk : Walk) (pair : Pair) (clauses : List IdClause) (k : ℕ) → IsOffering all task walk pair clauses k → k ≡ length clauses → IsWalked all task walk (key (major pair) (minor pair + 1) 1)
offering_ends all task walk pair clauses k o end =
    let count = named_length clauses o.resolvents o.name.are in
    let same : k ≡ length o.resolvents = omega (arith, count, end) in
    behind all task walk (major pair) (minor pair) (moved all task walk (major pair) (minor pair) k o.log o.order o.at (pair_offered task.given o.at.is_task.some o.log (major pair) (minor pair) o.resolvents o.order (subst (λ j. IsLogUpTo task.given (Some (key (major pair) (minor pair) (suc j))) o.log) same o.at.up_to) o.gives))
  where
    named_length : (clauses : List IdClause) (cs : List (Clause Term)) → map (clause_at all) clauses ≡ cs → length clauses ≡ length cs
    named_length [] [] are = refl
    named_length [] (d ∷ ds) are = cc
    named_length (c ∷ clauses) [] are = cc
    named_length (c ∷ clauses) (d ∷ ds) are = let rest : map (clause_at all) clauses ≡ ds = cc in ap suc (named_length clauses ds rest)

-- what an offer of a resolvent made, where its answer is known
pub step_made : (all : List Term) (old new : Walk) (pair : Pair) (k : ℕ) (c : IdClause) (found due : Option Entry) → found ≡ due
    → ((log : List offered.Entry) (at : Key) → TellLog all old.items.items log → IsOrigin log (resolvent_origin pair k) at → IsOfferMade all log old.items.items new.items.items old.budget (record { key = at; clause = clause_at all c }) found)
    → ((log : List offered.Entry) (at : Key) → TellLog all old.items.items log → IsOrigin log (resolvent_origin pair k) at → IsOfferMade all log old.items.items new.items.items old.budget (record { key = at; clause = clause_at all c }) due)
step_made all old new pair k c found due same made = λ log at t o. subst (IsOfferMade all log old.items.items new.items.items old.budget (record { key = at; clause = clause_at all c })) same (made log at t o)

-- An offer of a resolvent leaves the entries as they are, or adds one.
pub offer_kept : (all : List Term) (task : Task) (old new : Walk) (pair : Pair) (clauses : List IdClause) (k : ℕ) (c : IdClause) (due : Option Entry) → IsOffering all task old pair clauses k
    → ((log : List offered.Entry) (at : Key) → TellLog all old.items.items log → IsOrigin log (resolvent_origin pair k) at → IsOfferMade all log old.items.items new.items.items old.budget (record { key = at; clause = clause_at all c }) due) → AreSameOrMore old.items.items new.items.items
offer_kept all task old new pair clauses k c due o made =
    let number : suc k ≡ k + 1 = omega arith in
    let at = key (major pair) (minor pair) (suc k) in
    go due (record { key = at; clause = clause_at all c }) (made o.log at o.at.tell (ap (λ j. key (major pair) (minor pair) j) number, o.solved, λ same. omega (arith, same, o.order)))
  where
    go : (due : Option Entry) (e : offered.Entry) → IsOfferMade all o.log old.items.items new.items.items old.budget e due → AreSameOrMore old.items.items new.items.items
    go None e (inl covered) = inl covered.1
    go None e (inr added) =
        let before = log_length all old.items.items o.log o.at.tell in
        let after = log_length all new.items.items (o.log ++ e ∷ []) added.tell in
        let count : length (o.log ++ e ∷ []) ≡ length o.log + 1 = length-append o.log (e ∷ []) in
        inr (omega (arith, before, after, count))
    go (Some entry) e made = inl made.same

pub more_on : (a b c : List Entry) → AreSameOrMore a b → AreSameOrMore b c → AreSameOrMore a c
more_on a b c (inl p) (inl q) = inl (q ∙ p)
more_on a b c (inl p) (inr q) = inr (let same = ap length p in omega (arith, q, same))
more_on a b c (inr p) (inl q) = inr (let same = ap length q in omega (arith, p, same))
more_on a b c (inr p) (inr q) = inr (omega (arith, p, q))

-- where there are no more, they are the same
pub same_if_no_more : (a b : List Entry) → AreSameOrMore a b → length b ≤ length a → b ≡ a
same_if_no_more a b (inl p) few = p
same_if_no_more a b (inr p) few = absurd (omega (arith, p, few))

-- as the bank grows, a log with a pair that is too large stays one
pub large_grows : (a b : List Term) (task : Task) (entries : List Entry) (solved unsolved : ℕ) → Grows a b → HasLarge a task entries solved unsolved → HasLarge b task entries solved unsolved
large_grows a b task entries solved unsolved grows h = record {
  large = record {
    log = h.large.log;
    tell = TellLog-grows a b entries h.large.log grows h.large.tell;
    is_solved = h.large.is_solved;
    is_log = h.large.is_log;
  };
  early = h.early;
}

-- what was found of a pair of the same entries
pub found_same : (all now : List Term) (xs ys : List Entry) (pair : Pair) (found : Resolved) → xs ≡ ys → IsFoundFor all now xs pair found → IsFoundFor all now ys pair found
found_same all now xs ys pair found same h = subst (λ (es : List Entry). IsFoundFor all now es pair found) same h

-- as the bank grows, a due pair stays one, with what it gives
pub made_grows : (a b : List Term) (entries : List Entry) (pair : Pair) (clauses : List IdClause) → Grows a b → IsMadeBy a b entries pair clauses → AreFit a (clauses_of entries) → IsMadeBy b b entries pair clauses
made_grows a b entries pair clauses grows made fit =
    let due = made.gives.due in
    let left = same_clause a b entries pair.solved due.solved grows fit due.solved_at in
    let right = same_clause a b entries pair.unsolved due.unsolved grows fit due.unsolved_at in
    record {
      resolvents = made.resolvents;
      name = made.name;
      low = made.low;
      gives = record {
        due = record {
          solved = due.solved;
          unsolved = due.unsolved;
          solved_at = due.solved_at;
          unsolved_at = due.unsolved_at;
          is_later = due.is_later;
          is_earlier = due.is_earlier;
          order = due.order;
          solved_live = due.solved_live;
          unsolved_live = due.unsolved_live;
          left_solved = ap (λ c. is_solved c.hypotheses) left ∙ due.left_solved;
          right_unsolved = ap (λ c. is_solved c.hypotheses) right ∙ due.right_unsolved;
        };
        at = made.gives.at;
        selected = ap (λ c. select c.hypotheses) right ∙ made.gives.selected;
        give = subst (λ c. Resolves (clause_at b due.solved.clause) c made.gives.at (Resolvents made.resolvents)) (sym right) (subst (λ c. Resolves c (clause_at a due.unsolved.clause) made.gives.at (Resolvents made.resolvents)) (sym left) made.gives.give);
      };
    }

-- what was found of a pair, told of the bank as it is now
pub no_unifier_step : (all now : List Term) (task : Task) (walk : Walk) (pair : Pair) (xs : List Entry) (found : Resolved) → found ≡ resolving.NoUnifier → Grows all now → xs ≡ walk.items.items → IsFoundFor all now xs pair found → IsWalked all task walk (key (major pair) (minor pair) 1) → IsWalked now task walk (key (major pair) (minor pair + 1) 1)
no_unifier_step all now task walk pair xs found is grows same h w =
    let g : GivesAnswer all walk.items.items pair NoUnifier = subst (λ (f : Resolved). IsFoundFor all now walk.items.items pair f) is (found_same all now xs walk.items.items pair found same h) in
    walked_grows all now task walk (key (major pair) (minor pair + 1) 1) grows (apart_step all task walk pair g w)

pub too_large_step : (all now : List Term) (task : Task) (walk : Walk) (pair : Pair) (xs : List Entry) (found : Resolved) → found ≡ resolving.Large → Grows all now → xs ≡ walk.items.items → IsFoundFor all now xs pair found → IsWalked all task walk (key (major pair) (minor pair) 1) → HasLarge now task walk.items.items pair.solved pair.unsolved
too_large_step all now task walk pair xs found is grows same h w =
    let g : GivesAnswer all walk.items.items pair Large = subst (λ (f : Resolved). IsFoundFor all now walk.items.items pair f) is (found_same all now xs walk.items.items pair found same h) in
    large_grows all now task walk.items.items pair.solved pair.unsolved grows (large_step all task walk pair g w)

pub made_step : (all now : List Term) (pair : Pair) (xs ys : List Entry) (found : Resolved) (clauses : List IdClause) → found ≡ resolving.Clauses clauses → xs ≡ ys → IsFoundFor all now xs pair found → IsMadeBy all now ys pair clauses
made_step all now pair xs ys found clauses is same h = subst (λ (f : Resolved). IsFoundFor all now ys pair f) is (found_same all now xs ys pair found same h)
