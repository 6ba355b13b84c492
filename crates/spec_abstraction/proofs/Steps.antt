-- Each step of a run keeps its threads followed, its knowledge derived, and its events derived from those before them.
use Rattle.std.proofs.Common.{◌≡◌, ◌⊎◌, ◌∙◌, ℕ, zero, suc, ◌+◌, ◌<◌, ◌≤◌, Bool, true, false, cond, Option, Some, None, List, [], ◌∷◌, ◌++◌, map, length, take, refl, ap, sym, subst, inl, inr, length-append, arith}
use Rattle.std.specs.Prelude.{option_and_then, option_map, unwrap_or, slice_get, is_some, nat_eq, nat_lt}
use Rattle.std.specs.Option.{option_map_or}
use Rattle.std.specs.List.{AllByRecursion, list_any}
use Rattle.std.proofs.lemmas.Bool.{eqb-true}
use Rattle.std.proofs.lemmas.Bool.Decides.{nat_tests}
use Rattle.std.proofs.lemmas.List.{map-append}
use Rattle.spec_trees.specs.Tree.{Leaf}
use Rattle.spec_trees.proofs.Occurrence.{or_true}
use Rattle.spec_calculus.specs.Syntax.{Made, Pattern, Expression, Process, Nil, Output, Input, Parallel, Replication, New, Let, Event, Phase, Insert, Get, EventTerm, Rule, Protocol}
use Rattle.spec_calculus.specs.Syntax as calculus
use Rattle.spec_calculus.specs.Points.{numbered, replaced, nodes, point_after, greatest_phase}
use Rattle.spec_calculus.specs.Values.{Atom, MadeName, AttackerName, Value, Environment, same_value, value_of, values_of}
use Rattle.spec_calculus.specs.Matching.{matched, rule_value, rules_of}
use Rattle.spec_calculus.specs.Tables.{Held, matched_entry}
use Rattle.spec_calculus.specs.Choices.{value_at, values_at}
use Rattle.spec_calculus.specs.Runs.{Thread, At, Ended, Performed, Configuration, Step, Build, Reduce, Part, Fresh, Split, Copy, Make, Pass, Hear, Say, Take, Fail, Mark, Next, Put, Fetch, Miss, acts, acting, learns, goes_on, begins, performs, writes, knows, known_values, can_build, built, part_of, after_split, after_copy, after_make, received, after_receipt, after_pass, after_hear, after_say, after_take, after_fail, after_mark, after_put, after_fetch, after_miss, at_phase, enters, raised, after_step}
use Rattle.spec_calculus.specs.Runs as runs
use Rattle.spec_calculus.specs.Standing.{EnvironmentLacks, ThreadLacks, IsLacking}
use Rattle.spec_calculus.proofs.Equality.{same_value-sound}
use Rattle.spec_calculus.proofs.Items.{of_some, of_cond, of_then, of_map}
use Rattle.spec_well_formed.specs.Rules.{IsProperRule}
use Rattle.spec_well_formed.specs.Processes.{HasLinearPatterns}
use Rattle.spec_terms.specs.Term.{Term}
use Rattle.spec_clauses.specs.Fact.{Fact, Mess, Ev, Mev, Clause}
use Rattle.spec_clauses.specs.Kept.{AreMetBy}
use Rattle.spec_clauses.specs.Inclusion.{here, Has}
use Rattle.spec_clauses.proofs.Inclusion.{Has-append_left, Has-append_right}
use Rattle.spec_clauses.proofs.Lists.{all_append, all_weaker}
use Rattle.spec_derivations.specs.Derivation.{AreDerived, nothing, allowed, by_clause}
use Rattle.spec_translation.specs.Otherwise.{choice_diffs}
use Rattle.spec_translation.specs.Goal.{arguments_at}
use Rattle.spec_abstraction.specs.Trace.{Past, past_count, nothing_past, Trace, past_of, message_at, gets, hears, entry_values, goes_with, point_of, standing_at, after_trace}
use Rattle.spec_abstraction.specs.Naming.{Naming, abstracted, abstracted_binding, made_term, Names, event_fact, event_facts, held_fact}
use Rattle.spec_abstraction.specs.Taken.{IsTaken}
use Rattle.spec_abstraction.proofs.Acting.{acted}
use Rattle.spec_abstraction.proofs.Conclusions.{AttackerHas, Derived, all_numbered, next_derived, fresh_derived, heard_derived, sent_derived}
use Rattle.spec_abstraction.proofs.Knowledge.{IsKnown, built_known, reduced_known, part_known}
use Rattle.spec_abstraction.proofs.Standing.{Stands, stands_numbered, stands_counted, output_next, input_next, parallel_left, parallel_right, replication_next, new_next, let_next, let_otherwise, event_next, phase_next, insert_next, get_next, get_otherwise}
use Rattle.spec_abstraction.proofs.Following.{Follows, output_sends, output_follows, input_follows, left_follows, right_follows, copy_follows, new_follows, event_derived, event_follows, entry_derived, insert_follows, phase_follows, wait_follows}
use Rattle.spec_abstraction.proofs.Choosing.{take_follows, fail_follows}
use Rattle.spec_abstraction.proofs.Fetching.{fetched, fetched_counted, fetch_follows, miss_follows}
use Rattle.spec_abstraction.proofs.Pairs.{SideBySide, pairs_weaker, pairs_map, pairs_append, numbered_pair, replaced_left, replaced_both}

-- what is derived with some events allowed is derived with more
pub more_events : (IsRule : Clause Term → Type 0) (events more : List (Fact Term)) → ((f : Fact Term) → Has events f → Has more f) → {fs : List (Fact Term)} → AreDerived IsRule events fs → AreDerived IsRule more fs
more_events IsRule events more part nothing = nothing
more_events IsRule events more part (allowed {e = e} {ts = ts} h d) = allowed (part (Mev e ts) h) (more_events IsRule events more part d)
more_events IsRule events more part (by_clause plain rule i p d) = by_clause plain rule i (more_events IsRule events more part p) (more_events IsRule events more part d)

-- places in a list with one more at its end
place_in : {X : Type 0} (xs : List X) (x : X) (k : ℕ) (y : X) → slice_get (xs ++ x ∷ []) k ≡ Some y → ((slice_get xs k ≡ Some y) × (take k (xs ++ x ∷ []) ≡ take k xs)) ⊎ ((x ≡ y) × (take k (xs ++ x ∷ []) ≡ xs))
place_in [] x zero y e = inr (of_some x y e, refl)
place_in [] x (suc k) y e = cc
place_in (z ∷ xs) x zero y e = inl (e, refl)
place_in (z ∷ xs) x (suc k) y e = elim (place_in xs x k y e) as (λ _. ((slice_get xs k ≡ Some y) × (z ∷ take k (xs ++ x ∷ []) ≡ z ∷ take k xs)) ⊎ ((x ≡ y) × (z ∷ take k (xs ++ x ∷ []) ≡ z ∷ xs))) [
  | inl h ↦ inl (h.0, ap (λ ys. z ∷ ys) h.1)
  | inr h ↦ inr (h.0, ap (λ ys. z ∷ ys) h.1)
]

lt_holds : (m n : ℕ) → nat_lt m n ≡ true → m < n
lt_holds m n h = grind (arith, nat_tests)

copied_count : (past : Past) (n : ℕ) → past_count past + 1 ≡ length past.messages + length (past.sessions ++ n ∷ [])
copied_count past n = let h = length-append past.sessions (n ∷ []) in let one : length (n ∷ []) ≡ 1 = refl in omega (arith, h, one)

heard_count : (past : Past) (v : Value) → past_count past + 1 ≡ length (past.messages ++ v ∷ []) + length past.sessions
heard_count past v = let h = length-append past.messages (v ∷ []) in let one : length (v ∷ []) ≡ 1 = refl in omega (arith, h, one)

got_count : (past : Past) (vs : List Value) → past_count past + length vs ≡ length (past.messages ++ vs) + length past.sessions
got_count past vs = let h = length-append past.messages vs in omega (arith, h)

module _ (P : Protocol) (names : Naming) (all : List (Clause Term)) (has : AttackerHas P all) where
  -- the thread is followed by a visit of where it stands
  abbrev pub ThreadFollows : List (Fact Term) → ℕ → Thread → Past → Type 0
  ThreadFollows events now (At point environment) past = (process : Process) × Stands P.main point process (past_count past) × Follows P names all has events now process point environment past
  ThreadFollows events now Ended past = Unit {0}

  abbrev pub facts_after : List Performed → List (Fact Term)
  facts_after events = event_facts P names events

  -- the entry is derived
  abbrev pub IsEntered : List (Fact Term) → Held → Type 0
  IsEntered events held = Derived P all events (held_fact P names held ∷ [])

  -- an event that was performed, as a fact
  abbrev pub happened_fact : Performed → Fact Term
  happened_fact e = Ev e.event (map (abstracted P names) e.arguments)

  -- Threads are followed, knowledge and entries are derived with the events so far, and each event with those before it.
  pub record Tracked (c : Configuration) (t : Trace) : Type 0 where
    pub within : c.phase ≤ greatest_phase P.main
    pub threads : SideBySide (ThreadFollows (facts_after c.events) c.phase) c.threads t.pasts
    pub known : AllByRecursion (IsKnown P names all (facts_after c.events) c.phase) c.known
    pub entries : AllByRecursion (IsEntered (facts_after c.events)) c.entries
    pub happened : (k : ℕ) (e : Performed) → slice_get c.events k ≡ Some e → Derived P all (facts_after (take k c.events)) (happened_fact e ∷ [])
    pub counted : AllByRecursion (λ e. arguments_at P e.point ≡ past_count e.past) t.made

  -- one more known value
  tracked_learns : (c : Configuration) (t : Trace) (v : Value) → IsKnown P names all (facts_after c.events) c.phase v → Tracked c t → Tracked (learns c v) t
  tracked_learns c t v known a = record {
    within = a.within;
    threads = a.threads;
    known = all_append (IsKnown P names all (facts_after c.events) c.phase) c.known (v ∷ []) a.known (known, tt);
    entries = a.entries;
    happened = a.happened;
    counted = a.counted;
  }

  -- what is compared with known values, and found, is known
  found_known : (events : List (Fact Term)) (now : ℕ) (v : Value) (known : List Value) → AllByRecursion (IsKnown P names all events now) known → list_any (same_value v) known ≡ true → IsKnown P names all events now v
  found_known events now v [] a e = cc
  found_known events now v (w ∷ known) a e = elim (or_true (same_value v w) (list_any (same_value v) known) e) as (λ _. IsKnown P names all events now v) [
    | inl h ↦ subst (IsKnown P names all events now) (sym (same_value-sound v w h)) a.0
    | inr h ↦ found_known events now v known a.1 h
  ]

  values_known : (c : Configuration) (events : List (Fact Term)) → AllByRecursion (IsKnown P names all events c.phase) c.known → (ks : List ℕ) (vs : List Value) → known_values c ks ≡ Some vs → AllByRecursion (IsKnown P names all events c.phase) vs × (length vs ≡ length ks)
  values_known c events a [] vs e = let same : [] ≡ vs = of_some [] vs e in subst (λ us. AllByRecursion (IsKnown P names all events c.phase) us × (length us ≡ 0)) same (tt, refl)
  values_known c events a (k ∷ ks) vs e =
      let (v, stands, rest) = of_then (λ v. option_map (λ us. v ∷ us) (known_values c ks)) (numbered c.known k) vs e in
      let (us, others, same) = of_map (λ us. v ∷ us) (known_values c ks) vs rest in
      let more = values_known c events a ks us others in
      let first = all_numbered (IsKnown P names all events c.phase) c.known k v stands a in
      subst (λ ws. AllByRecursion (IsKnown P names all events c.phase) ws × (length ws ≡ length (k ∷ ks))) same ((first, more.0), ap suc more.1)

  -- Where no value of a `let` matches, the constraints of its else branch are met: no names of the thread pass the test.
  abbrev pub TellsFailing : (Atom → Bool) → Type 0
  TellsFailing foreign = (environment : Environment) → EnvironmentLacks foreign environment → (pattern : Pattern) (expression : Expression) → list_any (λ v. is_some (matched environment pattern v)) (values_at P environment expression) ≡ false → AreMetBy Leaf (choice_diffs P (map (abstracted_binding P names) environment) pattern expression)

  module _ (proper : (d : ℕ) → AllByRecursion IsProperRule (rules_of P d)) (linear : HasLinearPatterns P.main) (foreign : Atom → Bool) (tells : TellsFailing foreign) where
    -- where an acting thread stands, and that it is followed
    acting_follows : (c : Configuration) (t : Trace) (number point : ℕ) (environment : Environment) (process : Process) → Tracked c t → numbered c.threads number ≡ Some (At point environment) → numbered (nodes P.main) point ≡ Some process → Stands P.main point process (past_count (past_of t number)) × Follows P names all has (facts_after c.events) c.phase process point environment (past_of t number)
    acting_follows c t number point environment process a thread stands =
        let (found, there, follows) = numbered_pair (ThreadFollows (facts_after c.events) c.phase) c.threads t.pasts number (At point environment) nothing_past a.threads thread in
        let same : found ≡ process = of_some found process (sym (stands_numbered P.main point found (past_count (past_of t number)) there) ∙ stands) in
        (subst (λ p. Stands P.main point p (past_count (past_of t number))) same there, subst (λ p. Follows P names all has (facts_after c.events) c.phase p point environment (past_of t number)) same follows)

    module _ (c : Configuration) (t : Trace) (a : Tracked c t) where
      -- a thread goes on
      tracked_goes : (number : ℕ) (thread : Thread) → ThreadFollows (facts_after c.events) c.phase thread (past_of t number) → Tracked (goes_on c number thread) t
      tracked_goes number thread f = record {
        within = a.within;
        threads = replaced_left (ThreadFollows (facts_after c.events) c.phase) c.threads t.pasts number thread nothing_past a.threads f;
        known = a.known;
        entries = a.entries;
        happened = a.happened;
        counted = a.counted;
      }

      -- a thread goes on, having received a message or taken an entry
      tracked_gets : (number : ℕ) (thread : Thread) (vs : List Value) → ThreadFollows (facts_after c.events) c.phase thread (record (past_of t number) { messages = (past_of t number).messages ++ vs }) → Tracked (goes_on c number thread) (gets t number vs)
      tracked_gets number thread vs f = record {
        within = a.within;
        threads = replaced_both (ThreadFollows (facts_after c.events) c.phase) c.threads t.pasts number thread (record (past_of t number) { messages = (past_of t number).messages ++ vs }) a.threads f;
        known = a.known;
        entries = a.entries;
        happened = a.happened;
        counted = a.counted;
      }

      -- a new thread begins
      tracked_begins : (thread : Thread) (past : Past) → ThreadFollows (facts_after c.events) c.phase thread past → Tracked (begins c thread) (goes_with t past)
      tracked_begins thread past f = record {
        within = a.within;
        threads = pairs_append (ThreadFollows (facts_after c.events) c.phase) c.threads t.pasts thread past a.threads f;
        known = a.known;
        entries = a.entries;
        happened = a.happened;
        counted = a.counted;
      }

      split_tracked : (number point : ℕ) (environment : Environment) (process : Process) (d : Configuration) → Stands P.main point process (past_count (past_of t number)) → Follows P names all has (facts_after c.events) c.phase process point environment (past_of t number) → after_split c number point environment process ≡ Some d → Tracked d (goes_with t (past_of t number))
      split_tracked number point environment (Parallel left right) d s f e =
          let here = tracked_goes number (At (point + 1) environment) (left, parallel_left P.main point (past_count (past_of t number)) left right s, left_follows P names all has (facts_after c.events) c.phase a.within point environment (past_of t number) left right f) in
          let beside : Tracked (begins (goes_on c number (At (point + 1) environment)) (At (point_after (point + 1) left) environment)) (goes_with t (past_of t number)) = record {
            within = a.within;
            threads = pairs_append (ThreadFollows (facts_after c.events) c.phase) (replaced c.threads number (At (point + 1) environment)) t.pasts (At (point_after (point + 1) left) environment) (past_of t number) here.threads
                (right, parallel_right P.main point (past_count (past_of t number)) left right s, right_follows P names all has (facts_after c.events) c.phase a.within point environment (past_of t number) left right f);
            known = a.known;
            entries = a.entries;
            happened = a.happened;
            counted = a.counted;
          } in
          subst (λ d. Tracked d (goes_with t (past_of t number))) (of_some (begins (goes_on c number (At (point + 1) environment)) (At (point_after (point + 1) left) environment)) d e) beside
      split_tracked number point environment _ d s f e = cc

      copy_tracked : (number point : ℕ) (environment : Environment) (process : Process) (d : Configuration) → Stands P.main point process (past_count (past_of t number)) → Follows P names all has (facts_after c.events) c.phase process point environment (past_of t number) → after_copy c point environment process ≡ Some d → Tracked d (after_trace P c t (Copy number))
      copy_tracked number point environment (Replication copied) d s f e =
          let past = record (past_of t number) { sessions = (past_of t number).sessions ++ t.copies ∷ [] } in
          let begun = tracked_begins (At (point + 1) environment) past (copied, subst (Stands P.main (point + 1) copied) (copied_count (past_of t number) t.copies) (replication_next P.main point (past_count (past_of t number)) copied s), copy_follows P names all has (facts_after c.events) c.phase a.within point environment (past_of t number) copied t.copies f) in
          subst (λ d. Tracked d (after_trace P c t (Copy number))) (of_some (begins c (At (point + 1) environment)) d e)
          (record { within = begun.within; threads = begun.threads; known = begun.known; entries = begun.entries; happened = begun.happened; counted = begun.counted })
      copy_tracked number point environment _ d s f e = cc

      make_tracked : (number point : ℕ) (environment : Environment) (process : Process) (d : Configuration) → numbered c.threads number ≡ Some (At point environment) → Names P names (after_trace P c t (Make number)).made → Stands P.main point process (past_count (past_of t number)) → Follows P names all has (facts_after c.events) c.phase process point environment (past_of t number) → after_make c number point environment process ≡ Some d → Tracked d (after_trace P c t (Make number))
      make_tracked number point environment (New word next) d thread named s f e =
          let at : unwrap_or (standing_at c number) 0 ≡ point = ap (λ o. unwrap_or (option_and_then point_of o) 0) thread in
          let is_named = subst (λ p. names p c.next ≡ made_term P names (record { number = c.next; point = p; past = past_of t number })) at named.0 in
          let count : arguments_at P (unwrap_or (standing_at c number) 0) ≡ past_count (past_of t number) =
          ap (arguments_at P) at ∙ ap (λ o. unwrap_or o 0) (stands_counted P.main point (New word next) (past_count (past_of t number)) s) in
          let environment_after = environment ++ record { name = Made point; value = Leaf (MadeName point c.next) } ∷ [] in
          let on = tracked_goes number (At (point + 1) environment_after) (next, new_next P.main point (past_count (past_of t number)) word next s, new_follows P names all has (facts_after c.events) c.phase a.within point environment (past_of t number) word next c.next is_named f) in
          subst (λ d. Tracked d (after_trace P c t (Make number))) (of_some (runs.names (goes_on c number (At (point + 1) environment_after))) d e)
          (record { within = on.within; threads = on.threads; known = on.known; entries = on.entries; happened = on.happened; counted = (count, a.counted) })
      make_tracked number point environment _ d thread named s f e = cc

      -- a message is heard
      hear_tracked : (number point : ℕ) (environment : Environment) (process : Process) (d : Configuration) → Stands P.main point process (past_count (past_of t number)) → Follows P names all has (facts_after c.events) c.phase process point environment (past_of t number) → after_hear c number point environment process ≡ Some d → Tracked d t
      hear_tracked number point environment (Output channel message next) d s f e =
          let (found, is) = of_cond (knows c (value_of environment channel)) (Some (learns (goes_on c number (At (point + 1) environment)) (value_of environment message))) d e in
          let on = tracked_goes number (At (point + 1) environment) (next, output_next P.main point (past_count (past_of t number)) channel message next s, output_follows P names all has (facts_after c.events) c.phase a.within point environment (past_of t number) channel message next f) in
          let sends = output_sends P names all has (facts_after c.events) c.phase a.within point environment (past_of t number) channel message next f in
          let channel_known = found_known (facts_after c.events) c.phase (value_of environment channel) c.known a.known found in
          let heard = heard_derived P all (facts_after c.events) has c.phase a.within (abstracted P names (value_of environment channel)) (abstracted P names (value_of environment message)) sends channel_known in
          subst (λ d. Tracked d t) (of_some (learns (goes_on c number (At (point + 1) environment)) (value_of environment message)) d is)
          (tracked_learns (goes_on c number (At (point + 1) environment)) t (value_of environment message) heard on)
      hear_tracked number point environment _ d s f e = cc

      -- what an input has received, where the message is derived
      received_follows : (number point : ℕ) (environment : Environment) (channel : calculus.Term) (pattern : Pattern) (next : Process) (v : Value) → Stands P.main point (Input channel pattern next) (past_count (past_of t number)) → Follows P names all has (facts_after c.events) c.phase (Input channel pattern next) point environment (past_of t number) → Derived P all (facts_after c.events) (Mess c.phase (abstracted P names (value_of environment channel)) (abstracted P names v) ∷ []) → ThreadFollows (facts_after c.events) c.phase (received point environment (matched environment pattern v)) (record (past_of t number) { messages = (past_of t number).messages ++ v ∷ [] })
      received_follows number point environment channel pattern next v s f d = go (matched environment pattern v) refl
        where
          go : (o : Option Environment) → matched environment pattern v ≡ o → ThreadFollows (facts_after c.events) c.phase (received point environment o) (record (past_of t number) { messages = (past_of t number).messages ++ v ∷ [] })
          go None e = tt
          go (Some bs) e = (next, subst (Stands P.main (point + 1) next) (heard_count (past_of t number) v) (input_next P.main point (past_count (past_of t number)) channel pattern next s), input_follows P names all has (facts_after c.events) c.phase a.within point environment (past_of t number) channel pattern next v bs (s.linear linear).0 e d f)

      -- a known value is said
      say_tracked : (number point : ℕ) (v : Value) (environment : Environment) (process : Process) (d : Configuration) → IsKnown P names all (facts_after c.events) c.phase v → Stands P.main point process (past_count (past_of t number)) → Follows P names all has (facts_after c.events) c.phase process point environment (past_of t number) → after_say c number v point environment process ≡ Some d → Tracked d (hears t number (Some v))
      say_tracked number point v environment (Input channel pattern next) d known s f e =
          let (found, is) = of_cond (knows c (value_of environment channel)) (Some (goes_on c number (received point environment (matched environment pattern v)))) d e in
          let channel_known = found_known (facts_after c.events) c.phase (value_of environment channel) c.known a.known found in
          let said = sent_derived P all (facts_after c.events) has c.phase a.within (abstracted P names (value_of environment channel)) (abstracted P names v) channel_known known in
          subst (λ d. Tracked d (hears t number (Some v))) (of_some (goes_on c number (received point environment (matched environment pattern v))) d is)
          (tracked_gets number (received point environment (matched environment pattern v)) (v ∷ []) (received_follows number point environment channel pattern next v s f said))
      say_tracked number point v environment _ d known s f e = cc

      -- a value is taken, or none
      take_tracked : (number : ℕ) (label : List ℕ) (point : ℕ) (environment : Environment) (process : Process) (d : Configuration) → Stands P.main point process (past_count (past_of t number)) → Follows P names all has (facts_after c.events) c.phase process point environment (past_of t number) → after_take P c number label point environment process ≡ Some d → Tracked d t
      take_tracked number label point environment (Let pattern expression next otherwise) d s f e =
          let (bs, chosen, is) = of_map (λ bs. goes_on c number (At (point + 1) (environment ++ bs))) (option_and_then (matched environment pattern) (value_at P environment expression label)) d e in
          let (v, gives, match) = of_then (matched environment pattern) (value_at P environment expression label) bs chosen in
          let follows = take_follows P names all has (facts_after c.events) c.phase next point environment (past_of t number) pattern v bs (s.linear linear).0 match expression otherwise label proper gives f in
          subst (λ d. Tracked d t) is (tracked_goes number (At (point + 1) (environment ++ bs)) (next, let_next P.main point (past_count (past_of t number)) pattern expression next otherwise s, follows))
      take_tracked number label point environment _ d s f e = cc

      fail_tracked : (number point : ℕ) (environment : Environment) (process : Process) (d : Configuration) → EnvironmentLacks foreign environment → Stands P.main point process (past_count (past_of t number)) → Follows P names all has (facts_after c.events) c.phase process point environment (past_of t number) → after_fail P c number point environment process ≡ Some d → Tracked d t
      fail_tracked number point environment (Let pattern expression next otherwise) d lacks s f e =
          go (list_any (λ v. is_some (matched environment pattern v)) (values_at P environment expression)) refl e
        where
          go : (b : Bool) → list_any (λ v. is_some (matched environment pattern v)) (values_at P environment expression) ≡ b → cond b None (Some (goes_on c number (At (point_after (point + 1) next) environment))) ≡ Some d → Tracked d t
          go true k h = cc
          go false k h =
              subst (λ d. Tracked d t) (of_some (goes_on c number (At (point_after (point + 1) next) environment)) d h)
              (tracked_goes number (At (point_after (point + 1) next) environment) (otherwise, let_otherwise P.main point (past_count (past_of t number)) pattern expression next otherwise s, fail_follows P names all has (facts_after c.events) c.phase next point environment (past_of t number) pattern expression otherwise (tells environment lacks pattern expression k) f))
      fail_tracked number point environment _ d lacks s f e = cc

      -- an entry is written
      put_tracked : (number point : ℕ) (environment : Environment) (process : Process) (d : Configuration) → Stands P.main point process (past_count (past_of t number)) → Follows P names all has (facts_after c.events) c.phase process point environment (past_of t number) → after_put c number point environment process ≡ Some d → Tracked d t
      put_tracked number point environment (Insert table arguments next) d s f e =
          let new : Held = record { table = table; arguments = values_of environment arguments } in
          let on = tracked_goes number (At (point + 1) environment) (next, insert_next P.main point (past_count (past_of t number)) table arguments next s, insert_follows P names all has (facts_after c.events) c.phase a.within point environment (past_of t number) table arguments next f) in
          let entered = entry_derived P names all has (facts_after c.events) c.phase a.within point environment (past_of t number) table arguments next f in
          let after : Tracked (writes (goes_on c number (At (point + 1) environment)) new) t = record {
            within = on.within;
            threads = on.threads;
            known = on.known;
            entries = all_append (IsEntered (facts_after c.events)) c.entries (new ∷ []) a.entries (entered, tt);
            happened = on.happened;
            counted = on.counted;
          } in
          subst (λ d. Tracked d t) (of_some (writes (goes_on c number (At (point + 1) environment)) new) d e) after
      put_tracked number point environment _ d s f e = cc

      -- an entry is taken, or none
      fetch_tracked : (number entry point : ℕ) (environment : Environment) (process : Process) (d : Configuration) → Stands P.main point process (past_count (past_of t number)) → Follows P names all has (facts_after c.events) c.phase process point environment (past_of t number) → after_fetch c number entry point environment process ≡ Some d → Tracked d (gets t number (entry_values c entry))
      fetch_tracked number entry point environment (Get table patterns condition next otherwise) d s f e =
          let (bs, chosen, is) = of_map (λ bs. goes_on c number (At (point + 1) (environment ++ bs))) (option_and_then (matched_entry environment table patterns condition) (numbered c.entries entry)) d e in
          let (held, stands, match) = of_then (matched_entry environment table patterns condition) (numbered c.entries entry) bs chosen in
          let past = past_of t number in
          let values : entry_values c entry ≡ held.arguments = ap (λ o. option_map_or (λ (h : Held). h.arguments) o []) stands in
          let entered = all_numbered (IsEntered (facts_after c.events)) c.entries entry held stands a.entries in
          let follows = fetch_follows P names all has (facts_after c.events) c.phase next point environment past table patterns condition otherwise held bs (s.linear linear).0 match entered f in
          let counted = fetched_counted environment table patterns condition held bs (fetched environment table patterns condition held bs match) in
          let there = subst (Stands P.main (point + 1) next) (ap (λ n. past_count past + n) counted ∙ got_count past held.arguments) (get_next P.main point (past_count past) table patterns condition next otherwise s) in
          let thread = At (point + 1) (environment ++ bs) in
          subst (λ d. Tracked d (gets t number (entry_values c entry))) is
          (subst (λ vs. Tracked (goes_on c number thread) (gets t number vs)) (sym values) (tracked_gets number thread held.arguments (next, there, follows)))
      fetch_tracked number entry point environment _ d s f e = cc

      miss_tracked : (number point : ℕ) (environment : Environment) (process : Process) (d : Configuration) → Stands P.main point process (past_count (past_of t number)) → Follows P names all has (facts_after c.events) c.phase process point environment (past_of t number) → after_miss c number point environment process ≡ Some d → Tracked d t
      miss_tracked number point environment (Get table patterns condition next otherwise) d s f e =
          go (list_any (λ held. is_some (matched_entry environment table patterns condition held)) c.entries) e
        where
          go : (b : Bool) → cond b None (Some (goes_on c number (At (point_after (point + 1) next) environment))) ≡ Some d → Tracked d t
          go true h = cc
          go false h =
              let past = past_of t number in
              let thread = At (point_after (point + 1) next) environment in
              let follows = miss_follows P names all has (facts_after c.events) c.phase next point environment past table patterns condition otherwise f in
              subst (λ d. Tracked d t) (of_some (goes_on c number thread) d h)
              (tracked_goes number thread (otherwise, get_otherwise P.main point (past_count past) table patterns condition next otherwise s, follows))
      miss_tracked number point environment _ d s f e = cc

    -- a thread when the next phase begins
    enters_follows : (events : List (Fact Term)) (now : ℕ) (thread : Thread) (past : Past) → ThreadFollows events now thread past → ThreadFollows events (now + 1) (enters P (now + 1) thread) past
    enters_follows events now Ended past f = tt
    enters_follows events now (At point environment) past f =
        subst (λ o. ThreadFollows events (now + 1) (at_phase (now + 1) point environment o) past) (sym (stands_numbered P.main point f.0 (past_count past) f.1)) (of_process f.0 f.1 f.2)
      where
        of_process : (process : Process) → Stands P.main point process (past_count past) → Follows P names all has events now process point environment past → ThreadFollows events (now + 1) (at_phase (now + 1) point environment (Some process)) past
        of_process (Phase number next) s f = go (nat_eq number (now + 1)) (nat_lt (now + 1) number) refl
          where
            go : (begins waits : Bool) → nat_eq number (now + 1) ≡ begins → ThreadFollows events (now + 1) (cond begins (At (point + 1) environment) (cond waits (At point environment) Ended)) past
            go true waits e = (
              next,
              phase_next P.main point (past_count past) number next s,
              subst (λ k. Follows P names all has events k next (point + 1) environment past) (eqb-true number (now + 1) e) (phase_follows P names all has events now number point environment past next f),
            )
            go false true e = (Phase number next, s, wait_follows P names all has events now (now + 1) number point environment past next f)
            go false false e = tt
        of_process _ s f = tt

    -- the next phase begins
    raised_tracked : (c : Configuration) (t : Trace) → c.phase < greatest_phase P.main → Tracked c t → Tracked (raised P c) t
    raised_tracked c t before a = record {
      within = omega (arith, before);
      threads = pairs_map (ThreadFollows (facts_after c.events) c.phase) (ThreadFollows (facts_after c.events) (c.phase + 1)) (enters P (c.phase + 1)) (enters_follows (facts_after c.events) c.phase) c.threads t.pasts a.threads;
      known = all_weaker (IsKnown P names all (facts_after c.events) c.phase) (IsKnown P names all (facts_after c.events) (c.phase + 1)) (λ v d. next_derived P all (facts_after c.events) has c.phase (abstracted P names v) before d) c.known a.known;
      entries = a.entries;
      happened = a.happened;
      counted = a.counted;
    }

    -- what follows a thread follows it with more events
    follows_more : (events more : List (Fact Term)) (now : ℕ) → ((f : Fact Term) → Has events f → Has more f) → (process : Process) (point : ℕ) (environment : Environment) (past : Past) → Follows P names all has events now process point environment past → Follows P names all has more now process point environment past
    follows_more events more now part process point environment past f = record {
      visit = f.visit;
      by = f.by;
      carried = f.carried;
      has_visit = f.has_visit;
      closed = f.closed;
      in_phase = f.in_phase;
      met = f.met;
      derived = more_events (IsTaken all) events more part f.derived;
    }

    thread_more : (events more : List (Fact Term)) (now : ℕ) → ((f : Fact Term) → Has events f → Has more f) → (thread : Thread) (past : Past) → ThreadFollows events now thread past → ThreadFollows more now thread past
    thread_more events more now part (At point environment) past f = (f.0, f.1, follows_more events more now part f.0 point environment past f.2)
    thread_more events more now part Ended past f = tt

    -- an event is performed
    module _ (c : Configuration) (t : Trace) (a : Tracked c t) where
      mark_tracked : (number point : ℕ) (environment : Environment) (process : Process) (d : Configuration) → Stands P.main point process (past_count (past_of t number)) → Follows P names all has (facts_after c.events) c.phase process point environment (past_of t number) → after_mark c number point environment process ≡ Some d → Tracked d t
      mark_tracked number point environment (Event performed next) d s f e =
          let new : Performed = record { event = performed.event; arguments = values_of environment performed.arguments } in
          let events = c.events ++ new ∷ [] in
          let joined : facts_after events ≡ facts_after c.events ++ event_fact P names new ∷ [] = map-append (event_fact P names) c.events (new ∷ []) in
          let part : (g : Fact Term) → Has (facts_after c.events) g → Has (facts_after events) g = λ g h. subst (λ fs. Has fs g) (sym joined) (Has-append_left (facts_after c.events) (event_fact P names new ∷ []) g h) in
          let has_run : Has (facts_after events) (event_fact P names new) = subst (λ fs. Has fs (event_fact P names new)) (sym joined) (Has-append_right (facts_after c.events) (event_fact P names new ∷ []) (event_fact P names new) ([], here)) in
          let threads = pairs_weaker (ThreadFollows (facts_after c.events) c.phase) (ThreadFollows (facts_after events) c.phase) (thread_more (facts_after c.events) (facts_after events) c.phase part) c.threads t.pasts a.threads in
          let follows = event_follows P names all has (facts_after events) c.phase a.within point environment (past_of t number) performed next has_run (follows_more (facts_after c.events) (facts_after events) c.phase part (Event performed next) point environment (past_of t number) f) in
          let derived = event_derived P names all has (facts_after c.events) c.phase a.within point environment (past_of t number) performed next f in
          let happened : (k : ℕ) (g : Performed) → slice_get events k ≡ Some g → Derived P all (facts_after (take k events)) (happened_fact g ∷ []) = λ k g at.
          elim (place_in c.events new k g at) as (λ _. Derived P all (facts_after (take k events)) (happened_fact g ∷ [])) [
            | inl h ↦ subst (λ es. Derived P all (facts_after es) (happened_fact g ∷ [])) (sym h.1) (a.happened k g h.0)
            | inr h ↦ subst (λ es. Derived P all (facts_after es) (happened_fact g ∷ [])) (sym h.1) (subst (λ g. Derived P all (facts_after c.events) (happened_fact g ∷ [])) h.0 derived)
          ] in
          let after : Tracked (performs (goes_on c number (At (point + 1) environment)) new) t = record {
            within = a.within;
            threads = replaced_left (ThreadFollows (facts_after events) c.phase) c.threads t.pasts number (At (point + 1) environment) nothing_past threads (next, event_next P.main point (past_count (past_of t number)) performed next s, follows);
            known = all_weaker (IsKnown P names all (facts_after c.events) c.phase) (IsKnown P names all (facts_after events) c.phase) (λ v d. more_events (IsTaken all) (facts_after c.events) (facts_after events) part d) c.known a.known;
            entries = all_weaker (IsEntered (facts_after c.events)) (IsEntered (facts_after events)) (λ held d. more_events (IsTaken all) (facts_after c.events) (facts_after events) part d) c.entries a.entries;
            happened = happened;
            counted = a.counted;
          } in
          subst (λ d. Tracked d t) (of_some (performs (goes_on c number (At (point + 1) environment)) new) d e) after
      mark_tracked number point environment _ d s f e = cc

      -- one thread sends to another
      receipt_tracked : (sender receiver : ℕ) (sent : Thread) (channel message : Value) (point : ℕ) (environment : Environment) (process : Process) (d : Configuration) → ThreadFollows (facts_after c.events) c.phase sent (past_of t sender) → Derived P all (facts_after c.events) (Mess c.phase (abstracted P names channel) (abstracted P names message) ∷ []) → Stands P.main point process (past_count (past_of t receiver)) → Follows P names all has (facts_after c.events) c.phase process point environment (past_of t receiver) → after_receipt c sender receiver sent channel message point environment process ≡ Some d → Tracked d (hears t receiver (Some message))
      receipt_tracked sender receiver sent channel message point environment (Input on pattern next) d sends derived s f e =
          let thread = received point environment (matched environment pattern message) in
          let (same, is) = of_cond (same_value channel (value_of environment on)) (Some (goes_on (goes_on c sender sent) receiver thread)) d e in
          let one : channel ≡ value_of environment on = same_value-sound channel (value_of environment on) same in
          let derived_on = subst (λ v. Derived P all (facts_after c.events) (Mess c.phase (abstracted P names v) (abstracted P names message) ∷ [])) one derived in
          let first = tracked_goes c t a sender sent sends in
          subst (λ d. Tracked d (hears t receiver (Some message))) (of_some (goes_on (goes_on c sender sent) receiver thread) d is)
          (tracked_gets (goes_on c sender sent) t first receiver thread (message ∷ []) (received_follows c t a receiver point environment on pattern next message s f derived_on))
      receipt_tracked sender receiver sent channel message point environment _ d sends derived s f e = cc

      pass_tracked : (sender receiver point : ℕ) (environment : Environment) (process : Process) (d : Configuration) → numbered c.threads sender ≡ Some (At point environment) → numbered (nodes P.main) point ≡ Some process → Stands P.main point process (past_count (past_of t sender)) → Follows P names all has (facts_after c.events) c.phase process point environment (past_of t sender) → after_pass P c sender receiver point environment process ≡ Some d → Tracked d (hears t receiver (acting P c sender message_at))
      pass_tracked sender receiver point environment (Output channel message next) d thread stands s f e =
          let sent = At (point + 1) environment in
          let r = acted P c receiver (after_receipt c sender receiver sent (value_of environment channel) (value_of environment message)) d e in
          let (there, follows) = acting_follows c t receiver r.point r.environment r.process a r.thread r.stands in
          let sends = output_sends P names all has (facts_after c.events) c.phase a.within point environment (past_of t sender) channel message next f in
          let goes : ThreadFollows (facts_after c.events) c.phase sent (past_of t sender) = (next, output_next P.main point (past_count (past_of t sender)) channel message next s, output_follows P names all has (facts_after c.events) c.phase a.within point environment (past_of t sender) channel message next f) in
          let what : acting P c sender message_at ≡ Some (value_of environment message) = ap (λ o. option_and_then (λ thread. acts P thread message_at) o) thread ∙ ap (λ o. option_and_then (message_at point environment) o) stands in
          subst (λ o. Tracked d (hears t receiver o)) (sym what)
          (receipt_tracked sender receiver sent (value_of environment channel) (value_of environment message) r.point r.environment r.process d goes sends there follows r.is)
      pass_tracked sender receiver point environment _ d thread stands s f e = cc

    -- Each step keeps all this, where the names that are made have their terms.
    pub step_tracked : (c d : Configuration) (t : Trace) (step : Step) → after_step P c step ≡ Some d → IsLacking foreign c → Names P names (after_trace P c t step).made → Tracked c t → Tracked d (after_trace P c t step)
    step_tracked c d t (Build f ks) e lacking named a =
        let (can, rest) = of_cond (can_build P f (length ks)) (option_map (λ vs. learns c (built f vs)) (known_values c ks)) d e in
        let (vs, found, is) = of_map (λ vs. learns c (built f vs)) (known_values c ks) d rest in
        let known = values_known c (facts_after c.events) a.known ks vs found in
        subst (λ d. Tracked d t) is (tracked_learns c t (built f vs) (built_known P names all (facts_after c.events) c.phase has a.within f vs (ap (can_build P f) known.1 ∙ can) known.0) a)
    step_tracked c d t (Reduce n r ks) e lacking named a =
        let (rule, stands, rest) = of_then (λ rule. option_map (learns c) (option_and_then (rule_value rule) (known_values c ks))) (numbered (rules_of P n) r) d e in
        let (v, gives, is) = of_map (learns c) (option_and_then (rule_value rule) (known_values c ks)) d rest in
        let (vs, found, value) = of_then (rule_value rule) (known_values c ks) v gives in
        let known = values_known c (facts_after c.events) a.known ks vs found in
        subst (λ d. Tracked d t) is (tracked_learns c t v (reduced_known P names all (facts_after c.events) c.phase has a.within n r rule vs v (all_numbered IsProperRule (rules_of P n) r rule stands (proper n)) stands value known.0) a)
    step_tracked c d t (Part k n) e lacking named a =
        let (w, gives, is) = of_map (learns c) (option_and_then (part_of P n) (numbered c.known k)) d e in
        let (v, stands, part) = of_then (part_of P n) (numbered c.known k) w gives in
        subst (λ d. Tracked d t) is (tracked_learns c t w (part_known P names all (facts_after c.events) c.phase has a.within n v w part (all_numbered (IsKnown P names all (facts_after c.events) c.phase) c.known k v stands a.known)) a)
    step_tracked c d t Fresh e lacking named a =
        let v : Value = Leaf (AttackerName c.next) in
        let learned = tracked_learns c t v (fresh_derived P all (facts_after c.events) has c.phase a.within c.next) a in
        subst (λ d. Tracked d t) (of_some (runs.names (learns c v)) d e) (record { within = learned.within; threads = learned.threads; known = learned.known; entries = learned.entries; happened = learned.happened; counted = learned.counted })
    step_tracked c d t (Split n) e lacking named a =
        let r = acted P c n (after_split c n) d e in
        let (there, follows) = acting_follows c t n r.point r.environment r.process a r.thread r.stands in
        split_tracked c t a n r.point r.environment r.process d there follows r.is
    step_tracked c d t (Copy n) e lacking named a =
        let r = acted P c n (after_copy c) d e in
        let (there, follows) = acting_follows c t n r.point r.environment r.process a r.thread r.stands in
        copy_tracked c t a n r.point r.environment r.process d there follows r.is
    step_tracked c d t (Make n) e lacking named a =
        let r = acted P c n (after_make c n) d e in
        let (there, follows) = acting_follows c t n r.point r.environment r.process a r.thread r.stands in
        make_tracked c t a n r.point r.environment r.process d r.thread named there follows r.is
    step_tracked c d t (Pass n m) e lacking named a =
        let r = acted P c n (after_pass P c n m) d e in
        let (there, follows) = acting_follows c t n r.point r.environment r.process a r.thread r.stands in
        pass_tracked c t a n m r.point r.environment r.process d r.thread r.stands there follows r.is
    step_tracked c d t (Hear n) e lacking named a =
        let r = acted P c n (after_hear c n) d e in
        let (there, follows) = acting_follows c t n r.point r.environment r.process a r.thread r.stands in
        hear_tracked c t a n r.point r.environment r.process d there follows r.is
    step_tracked c d t (Say m k) e lacking named a =
        let (v, stands, rest) = of_then (λ v. acting P c m (after_say c m v)) (numbered c.known k) d e in
        let r = acted P c m (after_say c m v) d rest in
        let (there, follows) = acting_follows c t m r.point r.environment r.process a r.thread r.stands in
        let known = all_numbered (IsKnown P names all (facts_after c.events) c.phase) c.known k v stands a.known in
        subst (λ o. Tracked d (hears t m o)) (sym stands) (say_tracked c t a m r.point v r.environment r.process d known there follows r.is)
    step_tracked c d t (Take n label) e lacking named a =
        let r = acted P c n (after_take P c n label) d e in
        let (there, follows) = acting_follows c t n r.point r.environment r.process a r.thread r.stands in
        take_tracked c t a n label r.point r.environment r.process d there follows r.is
    step_tracked c d t (Fail n) e lacking named a =
        let r = acted P c n (after_fail P c n) d e in
        let (there, follows) = acting_follows c t n r.point r.environment r.process a r.thread r.stands in
        fail_tracked c t a n r.point r.environment r.process d (all_numbered (ThreadLacks foreign) c.threads n (At r.point r.environment) r.thread lacking.threads) there follows r.is
    step_tracked c d t (Mark n) e lacking named a =
        let r = acted P c n (after_mark c n) d e in
        let (there, follows) = acting_follows c t n r.point r.environment r.process a r.thread r.stands in
        mark_tracked c t a n r.point r.environment r.process d there follows r.is
    step_tracked c d t Next e lacking named a =
        let (before, is) = of_cond (nat_lt c.phase (greatest_phase P.main)) (Some (raised P c)) d e in
        let within : c.phase < greatest_phase P.main = lt_holds c.phase (greatest_phase P.main) before in
        subst (λ d. Tracked d t) (of_some (raised P c) d is) (raised_tracked c t within a)
    step_tracked c d t (Put n) e lacking named a =
        let r = acted P c n (after_put c n) d e in
        let (there, follows) = acting_follows c t n r.point r.environment r.process a r.thread r.stands in
        put_tracked c t a n r.point r.environment r.process d there follows r.is
    step_tracked c d t (Fetch n k) e lacking named a =
        let r = acted P c n (after_fetch c n k) d e in
        let (there, follows) = acting_follows c t n r.point r.environment r.process a r.thread r.stands in
        fetch_tracked c t a n k r.point r.environment r.process d there follows r.is
    step_tracked c d t (Miss n) e lacking named a =
        let r = acted P c n (after_miss c n) d e in
        let (there, follows) = acting_follows c t n r.point r.environment r.process a r.thread r.stands in
        miss_tracked c t a n r.point r.environment r.process d there follows r.is
