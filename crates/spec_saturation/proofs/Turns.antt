-- The walk over a log: turn m goes through the pairs of entry m with each earlier one. Between its pairs nothing is offered
-- but their resolvents, and between turns nothing but the goal.
use Rattle.std.proofs.Common.{◌≡◌, ◌⊎◌, ◌∙◌, ℕ, suc, ◌<◌, ◌≤◌, true, false, Option, Some, None, List, [], ◌∷◌, ◌++◌, length, refl, ap, sym, subst, inl, inr, arith}
use Rattle.std.proofs.lemmas.Bool.Decides.{nat_tests}
use Rattle.spec_terms.specs.Term.{Term}
use Rattle.spec_calculus.specs.Points.{numbered}
use Rattle.spec_clauses.specs.Fact.{Clause}
use Rattle.spec_clauses.specs.Resolvents.{Answer, NoUnifier, Large, Resolvents}
use Rattle.spec_clauses.proofs.Answers.{one_answer}
use Rattle.spec_saturation.specs.Key.{Key, key, is_before, Entry, below}
use Rattle.spec_saturation.specs.Log.{IsLive, IsCoveredBy, IsDue, Gives, IsOffered, goal_key, EndsAt}
use Rattle.spec_clauses.specs.Inclusion.{Has}
use Rattle.spec_saturation.specs.End.{IsBeforeEnd, IsLogUpTo}
use Rattle.spec_saturation.proofs.Keys.{parts_of_key, before_trans}
use Rattle.spec_saturation.proofs.Places.{numbered_within}
use Rattle.spec_saturation.proofs.Closing.{below_length}
use Rattle.spec_saturation.proofs.Offers.{gives_once}
use Rattle.spec_saturation.proofs.Uniqueness.{gives_moved}
use Rattle.spec_saturation.proofs.Moving.{next, before_next, next_least, below_all, self_not_before, between, below_push}

-- the numbers of a due pair
pub record DueNumbers (es : List Entry) (m i : ℕ) : Type 0 where
  pub first : 0 < i
  pub order : i < m
  pub within : m ≤ length es

pub due_numbers : (es : List Entry) (m i : ℕ) (s u : Clause Term) → IsDue es m i s u → DueNumbers es m i
due_numbers es m i s u due = go due.live
  where
    go : (IsLive es i s × IsLive es m u) ⊎ (IsLive es m s × IsLive es i u) → DueNumbers es m i
    go (inl x) = record { first = (numbered_within es i x.0.entry x.0.at).0; order = due.order; within = (numbered_within es m x.1.entry x.1.at).1 }
    go (inr x) = record { first = (numbered_within es i x.1.entry x.1.at).0; order = due.order; within = (numbered_within es m x.0.entry x.0.at).1 }

pub gives_numbers : (log : List Entry) (m i : ℕ) (answer : Answer) → Gives log m i answer → DueNumbers log m i
gives_numbers log m i answer g =
    let d = due_numbers (below (key m i 1) log) m i g.solved g.unsolved g.is_due in
    let few = below_length (key m i 1) log in
    let within = d.within in
    record { first = d.first; order = d.order; within = omega (arith, within, few) }

-- what is known of the keys at which clauses are offered
pub record GivenKey (given : List (Clause Term)) (k : Key) : Type 0 where
  pub major : k.major ≡ 0
  pub minor : k.minor ≡ 0
  pub some : 0 < k.number
  pub few : k.number < length given

pub record ResolventKey (log : List Entry) (k : Key) : Type 0 where
  pub some : 0 < k.number
  pub first : 0 < k.minor
  pub order : k.minor < k.major
  pub within : k.major ≤ length log

pub record GoalKey (given : List (Clause Term)) (log : List Entry) (k : Key) : Type 0 where
  pub minor : k.minor ≡ k.major
  pub number : k.number ≡ length given
  pub ends : EndsAt given log k.major
  pub first : (n : ℕ) → n < k.major → EndsAt given log n → ⊥

pub offer_keys : (given : List (Clause Term)) (log : List Entry) (e : Entry) → IsOffered given log e → GivenKey given e.key ⊎ (ResolventKey log e.key ⊎ GoalKey given log e.key)
offer_keys given log e (inl x) =
    let p = parts_of_key e.key (key 0 0 x.number) x.at in
    let w = numbered_within given x.number e.clause x.clause in
    let few = x.no_goal in
    inl (record { major = p.0; minor = p.1; some = omega (arith, p.2, w.0); few = omega (arith, p.2, few) })
offer_keys given log e (inr (inl x)) =
    let d = gives_numbers log e.key.major e.key.minor (Resolvents x.resolvents) x.gives in
    let w = numbered_within x.resolvents e.key.number e.clause x.clause in
    inr (inl (record { some = w.0; first = d.first; order = d.order; within = d.within }))
offer_keys given log e (inr (inr x)) =
    let p = parts_of_key e.key (key x.turn x.turn (length given)) x.at in
    inr (inr (record {
      minor = p.1 ∙ sym p.0;
      number = p.2;
      ends = subst (EndsAt given log) (sym p.0) x.ends;
      first = λ n lt. x.first n (subst (λ m. n < m) p.0 lt);
    }))

-- Between two keys nothing is offered where no key lies there that offers have.
pub record NoKeys (given : List (Clause Term)) (from : Key) (to : Option Key) (log : List Entry) : Type 0 where
  pub ascends : (k : Key) → is_before k from ≡ true → IsBeforeEnd k to
  pub no_given : (k : Key) → GivenKey given k → is_before k from ≡ false → IsBeforeEnd k to → ⊥
  pub no_resolvent : (k : Key) → ResolventKey log k → is_before k from ≡ false → IsBeforeEnd k to → ⊥
  pub no_goal : (k : Key) → GoalKey given log k → is_before k from ≡ false → IsBeforeEnd k to → ⊥

pub between_keys : (given : List (Clause Term)) (from : Key) (to : Option Key) (log : List Entry) → IsLogUpTo given (Some from) log → NoKeys given from to log → IsLogUpTo given to log
between_keys given from to log up_to none = between given from to log up_to (record {
  ascends = none.ascends;
  covered = λ e n h offered. covered e n h (offer_keys given log e offered);
  no_large = λ m i n h large. (
      let d = gives_numbers log m i Large large in
      none.no_resolvent (key m i 1) (record { some = omega arith; first = d.first; order = d.order; within = d.within }) n h);
})
  where
    covered : (e : Entry) → is_before e.key from ≡ false → IsBeforeEnd e.key to → GivenKey given e.key ⊎ (ResolventKey log e.key ⊎ GoalKey given log e.key) → IsCoveredBy log e.clause
    covered e n h (inl k) = absurd (none.no_given e.key k n h)
    covered e n h (inr (inl k)) = absurd (none.no_resolvent e.key k n h)
    covered e n h (inr (inr k)) = absurd (none.no_goal e.key k n h)

module _ (given : List (Clause Term)) (some : 0 < length given) where
  -- before the first given clause nothing is offered
  pub begun : IsLogUpTo given (Some (key 0 0 1)) []
  begun = record {
    sorted = tt;
    early = λ e h. elim h.1 [ ];
    sound = λ e h. elim h.1 [ ];
    complete = λ e early new. none e early (offer_keys given [] e new.offered);
    no_large = λ m i early large. no_pair m i early (gives_numbers [] m i Large large);
  }
    where
      none : (e : Entry) → is_before e.key (key 0 0 1) ≡ true → GivenKey given e.key ⊎ (ResolventKey [] e.key ⊎ GoalKey given [] e.key) → Has [] e
      none e early (inl k) = let a = k.major in let b = k.minor in let c = k.some in absurd (grind (arith, nat_tests))
      none e early (inr (inl k)) = let a = k.order in let b = k.within in absurd (omega (arith, a, b))
      none e early (inr (inr k)) = let a = k.minor in let b = k.number in absurd (grind (arith, nat_tests))

      no_pair : (m i : ℕ) → is_before (key m i 1) (key 0 0 1) ≡ true → DueNumbers [] m i → ⊥
      no_pair m i early d = let a = d.order in let b = d.within in omega (arith, a, b)

  -- from the last pair of a turn on nothing is offered before the goal
  pub turn_ends : (log : List Entry) (m : ℕ) → 0 < m → IsLogUpTo given (Some (key m m 1)) log → IsLogUpTo given (Some (goal_key given m)) log
  turn_ends log m positive up_to = between_keys given (key m m 1) (Some (goal_key given m)) log up_to (record {
    ascends = λ k h. ascends k (length given) some h;
    no_given = λ k g n h. no_given k g n;
    no_resolvent = λ k r n h. no_resolvent k (length given) r.order n h;
    no_goal = λ k g n h. no_goal k (length given) g.minor g.number n h;
  })
    where
      ascends : (k : Key) (K : ℕ) → 0 < K → is_before k (key m m 1) ≡ true → is_before k (key m m K) ≡ true
      ascends k K pos h = grind (arith, nat_tests)

      no_given : (k : Key) → GivenKey given k → is_before k (key m m 1) ≡ false → ⊥
      no_given k g n = let a = g.major in grind (arith, nat_tests)

      no_resolvent : (k : Key) (K : ℕ) → k.minor < k.major → is_before k (key m m 1) ≡ false → is_before k (key m m K) ≡ true → ⊥
      no_resolvent k K order n h = grind (arith, nat_tests)

      no_goal : (k : Key) (K : ℕ) → k.minor ≡ k.major → k.number ≡ K → is_before k (key m m 1) ≡ false → is_before k (key m m K) ≡ true → ⊥
      no_goal k K e f n h = grind (arith, nat_tests)

  -- behind the goal's key of a turn nothing is offered before the first pair of the next one
  pub turn_begins : (log : List Entry) (n : ℕ) → IsLogUpTo given (Some (next (goal_key given n))) log → IsLogUpTo given (Some (key (suc n) 1 1)) log
  turn_begins log n up_to = between_keys given (next (goal_key given n)) (Some (key (suc n) 1 1)) log up_to (record {
    ascends = λ k h. ascends k (length given) h;
    no_given = λ k g f h. no_given k (length given) g.major g.minor g.few f;
    no_resolvent = λ k r f h. no_resolvent k (length given) r.some r.first r.order f h;
    no_goal = λ k g f h. no_goal k (length given) some g.minor g.number f h;
  })
    where
      ascends : (k : Key) (K : ℕ) → is_before k (key n n (suc K)) ≡ true → is_before k (key (suc n) 1 1) ≡ true
      ascends k K h = grind (arith, nat_tests)

      no_given : (k : Key) (K : ℕ) → k.major ≡ 0 → k.minor ≡ 0 → k.number < K → is_before k (key n n (suc K)) ≡ false → ⊥
      no_given k K a b c f = grind (arith, nat_tests)

      no_resolvent : (k : Key) (K : ℕ) → 0 < k.number → 0 < k.minor → k.minor < k.major → is_before k (key n n (suc K)) ≡ false → is_before k (key (suc n) 1 1) ≡ true → ⊥
      no_resolvent k K a b c f h = grind (arith, nat_tests)

      no_goal : (k : Key) (K : ℕ) → 0 < K → k.minor ≡ k.major → k.number ≡ K → is_before k (key n n (suc K)) ≡ false → is_before k (key (suc n) 1 1) ≡ true → ⊥
      no_goal k K pos a b f h = grind (arith, nat_tests)

  -- where the entries end behind the goal's key, the log is closed
  pub closed : (log : List Entry) (n : ℕ) → length log ≤ n → IsLogUpTo given (Some (next (goal_key given n))) log → IsLogUpTo given None log
  closed log n few up_to = between_keys given (next (goal_key given n)) None log up_to (record {
    ascends = λ k h. tt;
    no_given = λ k g f h. no_given k (length given) g.major g.minor g.few f;
    no_resolvent = λ k r f h. no_resolvent k (length given) (length log) few r.order r.within f;
    no_goal = λ k g f h. (let at_most = below_length (goal_key given k.major) log in let ends = g.ends in no_goal k (length given) g.minor g.number (omega (arith, few, at_most, ends)) f);
  })
    where
      no_given : (k : Key) (K : ℕ) → k.major ≡ 0 → k.minor ≡ 0 → k.number < K → is_before k (key n n (suc K)) ≡ false → ⊥
      no_given k K a b c f = grind (arith, nat_tests)

      no_resolvent : (k : Key) (K L : ℕ) → L ≤ n → k.minor < k.major → k.major ≤ L → is_before k (key n n (suc K)) ≡ false → ⊥
      no_resolvent k K L few a b f = grind (arith, nat_tests)

      no_goal : (k : Key) (K : ℕ) → k.minor ≡ k.major → k.number ≡ K → k.major ≤ n → is_before k (key n n (suc K)) ≡ false → ⊥
      no_goal k K a b c f = grind (arith, nat_tests)

  -- the goal isn't offered at a turn's end where the entries don't end there for the first time
  pub goal_passed : (log : List Entry) (n : ℕ) → (EndsAt given log n → ((t : ℕ) → t < n → EndsAt given log t → ⊥) → ⊥) → IsLogUpTo given (Some (goal_key given n)) log → IsLogUpTo given (Some (next (goal_key given n))) log
  goal_passed log n not_first up_to = between_keys given (goal_key given n) (Some (next (goal_key given n))) log up_to (record {
    ascends = λ k h. before_trans k (goal_key given n) (next (goal_key given n)) h (before_next (goal_key given n));
    no_given = λ k g f h. (let at = next_least k (goal_key given n) h f in let p = parts_of_key k (goal_key given n) at in let a = g.few in omega (arith, p.2, a));
    no_resolvent = λ k r f h. (let at = next_least k (goal_key given n) h f in let p = parts_of_key k (goal_key given n) at in let a = r.order in omega (arith, p.0, p.1, a));
    no_goal = λ k g f h. (
        let at = next_least k (goal_key given n) h f in
        let p = parts_of_key k (goal_key given n) at in
        not_first (subst (EndsAt given log) p.0 g.ends) (λ t lt. g.first t (subst (λ m. t < m) (sym p.0) lt)));
  })

  -- at a turn's end at which the entries end for the first time the goal is offered
  pub goal_offered : (log : List Entry) (n : ℕ) (goal : Clause Term) → numbered given (length given) ≡ Some goal → IsLogUpTo given (Some (goal_key given n)) log → length log ≡ n → ((t : ℕ) → t < n → EndsAt given log t → ⊥) → IsOffered given log (record { key = goal_key given n; clause = goal })
  goal_offered log n goal is_goal up_to ends first =
      let whole = below_all given (goal_key given n) (goal_key given n) log up_to (self_not_before (goal_key given n)) in
      inr (inr (record { turn = n; at = refl; ends = ap length whole ∙ ends; first = first; clause = is_goal }))

  -- the pair is done with where it gives no more than what was offered
  pub pair_done : (log : List Entry) (m i n : ℕ) → i < m → IsLogUpTo given (Some (key m i (suc n))) log → (Gives log m i Large → ⊥) → ((cs : List (Clause Term)) → Gives log m i (Resolvents cs) → length cs ≤ n) → IsLogUpTo given (Some (key m (suc i) 1)) log
  pair_done log m i n order up_to not_large most = between given (key m i (suc n)) (Some (key m (suc i) 1)) log up_to (record {
    ascends = λ k h. ascends k h;
    covered = λ e f h offered. absurd (none e f h offered);
    no_large = λ j l f h large. no_large j l f h (gives_numbers log j l Large large) large;
  })
    where
      ascends : (k : Key) → is_before k (key m i (suc n)) ≡ true → is_before k (key m (suc i) 1) ≡ true
      ascends k h = grind (arith, nat_tests)

      no_given : (k : Key) → k.major ≡ 0 → is_before k (key m i (suc n)) ≡ false → ⊥
      no_given k a f = grind (arith, nat_tests)

      no_goal : (k : Key) (K : ℕ) → 0 < K → k.minor ≡ k.major → k.number ≡ K → is_before k (key m i (suc n)) ≡ false → is_before k (key m (suc i) 1) ≡ true → ⊥
      no_goal k K pos a b f h = grind (arith, nat_tests)

      -- a key of this pair
      this_pair : (k : Key) → 0 < k.number → is_before k (key m i (suc n)) ≡ false → is_before k (key m (suc i) 1) ≡ true → (k.major ≡ m) × (k.minor ≡ i) × (n < k.number)
      this_pair k pos f h = (major k pos f h, minor k pos f h, number k pos f h) where
        major : (k : Key) → 0 < k.number → is_before k (key m i (suc n)) ≡ false → is_before k (key m (suc i) 1) ≡ true → k.major ≡ m
        major k pos f h = grind (arith, nat_tests)

        minor : (k : Key) → 0 < k.number → is_before k (key m i (suc n)) ≡ false → is_before k (key m (suc i) 1) ≡ true → k.minor ≡ i
        minor k pos f h = grind (arith, nat_tests)

        number : (k : Key) → 0 < k.number → is_before k (key m i (suc n)) ≡ false → is_before k (key m (suc i) 1) ≡ true → n < k.number
        number k pos f h = grind (arith, nat_tests)

      none : (e : Entry) → is_before e.key (key m i (suc n)) ≡ false → is_before e.key (key m (suc i) 1) ≡ true → IsOffered given log e → ⊥
      none e f h (inl x) = no_given e.key (parts_of_key e.key (key 0 0 x.number) x.at).0 f
      none e f h (inr (inl x)) =
          let w = numbered_within x.resolvents e.key.number e.clause x.clause in
          let p = this_pair e.key w.0 f h in
          let here : Gives log m i (Resolvents x.resolvents) = subst (λ a. Gives log a i (Resolvents x.resolvents)) p.0 (subst (λ b. Gives log e.key.major b (Resolvents x.resolvents)) p.1 x.gives) in
          let few = most x.resolvents here in
          let more = p.2 in
          omega (arith, w.1, few, more)
      none e f h (inr (inr x)) =
          let p = parts_of_key e.key (goal_key given x.turn) x.at in
          no_goal e.key (length given) some (p.1 ∙ sym p.0) p.2 f h

      no_large : (j l : ℕ) → is_before (key j l 1) (key m i (suc n)) ≡ false → is_before (key j l 1) (key m (suc i) 1) ≡ true → DueNumbers log j l → Gives log j l Large → ⊥
      no_large j l f h d large =
          let p = this_pair (key j l 1) (omega arith) f h in
          not_large (subst (λ a. Gives log a i Large) p.0 (subst (λ b. Gives log j b Large) p.1 large))

  -- a pair that isn't due gives nothing
  pub pair_undue : (log : List Entry) (m i : ℕ) → i < m → IsLogUpTo given (Some (key m i 1)) log → ((s u : Clause Term) → IsDue log m i s u → ⊥) → IsLogUpTo given (Some (key m (suc i) 1)) log
  pair_undue log m i order up_to undue =
      let whole = below_all given (key m i 1) (key m i 1) log up_to (self_not_before (key m i 1)) in
      let none : (answer : Answer) → Gives log m i answer → ⊥ = λ answer g. undue g.solved g.unsolved (subst (λ es. IsDue es m i g.solved g.unsolved) whole g.is_due) in
      pair_done log m i 0 order up_to (none Large) (λ cs g. absurd (none (Resolvents cs) g))

  -- nor does one whose facts have no unifier
  pub pair_apart : (log : List Entry) (m i : ℕ) → i < m → IsLogUpTo given (Some (key m i 1)) log → Gives log m i NoUnifier → IsLogUpTo given (Some (key m (suc i) 1)) log
  pair_apart log m i order up_to none =
      pair_done log m i 0 order up_to (λ g. apart (gives_once one_answer log m i Large NoUnifier g none)) (λ cs g. absurd (apart_from cs (gives_once one_answer log m i (Resolvents cs) NoUnifier g none)))
    where
      apart : Large ≡ NoUnifier → ⊥
      apart e = cc

      apart_from : (cs : List (Clause Term)) → Resolvents cs ≡ NoUnifier → ⊥
      apart_from cs e = cc

  -- one that gives these resolvents is done with when they are offered
  pub pair_offered : (log : List Entry) (m i : ℕ) (cs : List (Clause Term)) → i < m → IsLogUpTo given (Some (key m i (suc (length cs)))) log → Gives log m i (Resolvents cs) → IsLogUpTo given (Some (key m (suc i) 1)) log
  pair_offered log m i cs order up_to gives =
      pair_done log m i (length cs) order up_to (λ g. apart (gives_once one_answer log m i Large (Resolvents cs) g gives)) (λ ds g. no_more ds (gives_once one_answer log m i (Resolvents ds) (Resolvents cs) g gives))
    where
      apart : Large ≡ Resolvents cs → ⊥
      apart e = cc

      no_more : (ds : List (Clause Term)) → Resolvents ds ≡ Resolvents cs → length ds ≤ length cs
      no_more ds e = let same : ds ≡ cs = cc in let count = ap length same in omega (arith, count)

-- what a pair gives it gives with an entry more that is offered by the pair
pub gives_push : (log : List Entry) (e : Entry) (m i k : ℕ) (answer : Answer) → e.key ≡ key m i (suc k) → Gives log m i answer → Gives (log ++ e ∷ []) m i answer
gives_push log e m i k answer at g =
    gives_moved log (log ++ e ∷ []) m i answer (sym (below_push (key m i 1) log e (subst (λ j. is_before j (key m i 1) ≡ false) (sym at) (later m i k)))) g
  where
    later : (m i k : ℕ) → is_before (key m i (suc k)) (key m i 1) ≡ false
    later m i k = grind (arith, nat_tests)
