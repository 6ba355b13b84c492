-- Steps only add to what is known and performed, and take name numbers in order.
use Rattle.std.proofs.Common.{◌≡◌, ℕ, zero, suc, ◌+◌, ◌<◌, ◌≤◌, Bool, true, false, nat_lt, cond, List, [], ◌∷◌, ◌++◌, length, take, slice_get, Option, Some, None, IfSome, option_and_then, option_map, is_some, Contains, refl, sym, ap, ◌∙◌, subst, append_assoc, arith, length-append}
use Rattle.std.proofs.lemmas.List.{get_or_append_left, take-append-le}
use Rattle.std.proofs.lemmas.Option.{slice_get_within}
use Rattle.std.specs.List.{list_any}
use Rattle.spec_trees.specs.Tree.{Leaf}
use Rattle.spec_calculus.specs.Syntax.{EventTerm, Process, Output, Input, Parallel, Replication, New, Let, Event, Insert, Get, Protocol, Query, Secret, SecretNew, Correspondence}
use Rattle.spec_calculus.specs.Points.{numbered, nodes, point_after, greatest_phase}
use Rattle.spec_calculus.specs.Values.{MadeName, AttackerName, Value, Environment, same_value, value_of, values_of}
use Rattle.spec_calculus.specs.Matching.{matched, rule_value, rules_of}
use Rattle.spec_calculus.specs.Tables.{matched_entry}
use Rattle.spec_calculus.specs.Choices.{value_at, values_at}
use Rattle.spec_calculus.specs.Runs.{Thread, At, Ended, Performed, Configuration, Step, Build, Reduce, Part, Fresh, Split, Copy, Make, Pass, Hear, Say, Take, Fail, Mark, Next, Put, Fetch, Miss, acts, acting, knows, learns, goes_on, known_values, can_build, built, part_of, received, after_split, after_copy, after_make, after_receipt, after_pass, after_hear, after_say, after_take, after_fail, after_mark, after_put, after_fetch, after_miss, raised, after_step, after_steps}
use Rattle.spec_calculus.specs.Standing.{names_made, phases_begun}
use Rattle.spec_calculus.specs.Secrecy.{IsViolated, IsOpen, IsUnpreceded, AllPerformed, instance}
use Rattle.spec_calculus.proofs.Items.{if_some-is, if_some-of, if_some-cond, if_some-then, if_some-map}
use Rattle.spec_calculus.proofs.Steps.{steps_keep}

-- what the second list has beyond the first
abbrev pub Extends : {A : Type 0} → List A → List A → Type 0
Extends {A} before now = (more : List A) × (now ≡ before ++ more)

append-none : {A : Type 0} (xs : List A) → xs ≡ xs ++ []
append-none [] = refl
append-none (x ∷ xs) = ap (λ ys. x ∷ ys) (append-none xs)

extends_itself : {A : Type 0} (xs : List A) → Extends xs xs
extends_itself xs = ([], append-none xs)

extends_once : {A : Type 0} (xs : List A) (x : A) → Extends xs (xs ++ x ∷ [])
extends_once xs x = (x ∷ [], refl)

extends_on : {A : Type 0} (xs ys zs : List A) → Extends xs ys → Extends ys zs → Extends xs zs
extends_on xs ys zs (more, is) (others, is_too) = (more ++ others, is_too ∙ (ap (λ l. l ++ others) is ∙ append_assoc xs more others))

-- d comes of c by a step that takes so many name numbers, and with which so many phases begin
pub record Advances (taken begun : ℕ) (c d : Configuration) : Type 0 where
  pub known : Extends c.known d.known
  pub events : Extends c.events d.events
  pub entries : Extends c.entries d.entries
  pub next : d.next ≡ c.next + taken
  pub phase : d.phase ≡ c.phase + begun

learns_advances : (c : Configuration) (v : Value) → Advances 0 0 c (learns c v)
learns_advances c v = record { known = extends_once c.known v; events = extends_itself c.events; next = omega arith; phase = omega arith; entries = extends_itself c.entries }

goes_on_advances : (c : Configuration) (i : ℕ) (thread : Thread) → Advances 0 0 c (goes_on c i thread)
goes_on_advances c i thread = record { known = extends_itself c.known; events = extends_itself c.events; next = omega arith; phase = omega arith; entries = extends_itself c.entries }

module _ (P : Protocol) where
  acts_any : (Q : Configuration → Type 0) (thread : Thread) (action : ℕ → Environment → Process → Option Configuration) → ((point : ℕ) (environment : Environment) (process : Process) → IfSome (action point environment process) Q) → IfSome (acts P thread action) Q
  acts_any Q (At point environment) action any = if_some-then Q (action point environment) (numbered (nodes P.main) point) (λ process is. any point environment process)
  acts_any Q Ended action any = tt

  acting_any : (Q : Configuration → Type 0) (c : Configuration) (i : ℕ) (action : ℕ → Environment → Process → Option Configuration) → ((point : ℕ) (environment : Environment) (process : Process) → IfSome (action point environment process) Q) → IfSome (acting P c i action) Q
  acting_any Q c i action any = if_some-then Q (λ thread. acts P thread action) (numbered c.threads i) (λ thread is. acts_any Q thread action any)

  split_advances : (c : Configuration) (i point : ℕ) (environment : Environment) (process : Process) → IfSome (after_split c i point environment process) (Advances 0 0 c)
  split_advances c i point environment (Parallel left right) = record { known = extends_itself c.known; events = extends_itself c.events; next = omega arith; phase = omega arith; entries = extends_itself c.entries }
  split_advances c i point environment other = tt

  copy_advances : (c : Configuration) (point : ℕ) (environment : Environment) (process : Process) → IfSome (after_copy c point environment process) (Advances 0 0 c)
  copy_advances c point environment (Replication copied) = record { known = extends_itself c.known; events = extends_itself c.events; next = omega arith; phase = omega arith; entries = extends_itself c.entries }
  copy_advances c point environment other = tt

  make_advances : (c : Configuration) (i point : ℕ) (environment : Environment) (process : Process) → IfSome (after_make c i point environment process) (Advances 1 0 c)
  make_advances c i point environment (New word next) = record { known = extends_itself c.known; events = extends_itself c.events; next = refl; phase = omega arith; entries = extends_itself c.entries }
  make_advances c i point environment other = tt

  receipt_advances : (c : Configuration) (i j : ℕ) (sent : Thread) (channel message : Value) (point : ℕ) (environment : Environment) (process : Process) → IfSome (after_receipt c i j sent channel message point environment process) (Advances 0 0 c)
  receipt_advances c i j sent channel message point environment (Input on pattern next) =
      if_some-cond (Advances 0 0 c) (same_value channel (value_of environment on))
      (goes_on (goes_on c i sent) j (received point environment (matched environment pattern message)))
      (record { known = extends_itself c.known; events = extends_itself c.events; next = omega arith; phase = omega arith; entries = extends_itself c.entries })
  receipt_advances c i j sent channel message point environment other = tt

  pass_advances : (c : Configuration) (i j point : ℕ) (environment : Environment) (process : Process) → IfSome (after_pass P c i j point environment process) (Advances 0 0 c)
  pass_advances c i j point environment (Output channel message next) =
      acting_any (Advances 0 0 c) c j (after_receipt c i j (At (point + 1) environment) (value_of environment channel) (value_of environment message))
      (receipt_advances c i j (At (point + 1) environment) (value_of environment channel) (value_of environment message))
  pass_advances c i j point environment other = tt

  hear_advances : (c : Configuration) (i point : ℕ) (environment : Environment) (process : Process) → IfSome (after_hear c i point environment process) (Advances 0 0 c)
  hear_advances c i point environment (Output channel message next) =
      if_some-cond (Advances 0 0 c) (knows c (value_of environment channel))
      (learns (goes_on c i (At (point + 1) environment)) (value_of environment message))
      (record { known = extends_once c.known (value_of environment message); events = extends_itself c.events; next = omega arith; phase = omega arith; entries = extends_itself c.entries })
  hear_advances c i point environment other = tt

  say_advances : (c : Configuration) (j : ℕ) (v : Value) (point : ℕ) (environment : Environment) (process : Process) → IfSome (after_say c j v point environment process) (Advances 0 0 c)
  say_advances c j v point environment (Input channel pattern next) =
      if_some-cond (Advances 0 0 c) (knows c (value_of environment channel))
      (goes_on c j (received point environment (matched environment pattern v)))
      (goes_on_advances c j (received point environment (matched environment pattern v)))
  say_advances c j v point environment other = tt

  take_advances : (c : Configuration) (i : ℕ) (label : List ℕ) (point : ℕ) (environment : Environment) (process : Process) → IfSome (after_take P c i label point environment process) (Advances 0 0 c)
  take_advances c i label point environment (Let pattern expression next otherwise) =
      if_some-map (Advances 0 0 c) (λ bindings. goes_on c i (At (point + 1) (environment ++ bindings)))
      (option_and_then (matched environment pattern) (value_at P environment expression label))
      (λ bindings is. goes_on_advances c i (At (point + 1) (environment ++ bindings)))
  take_advances c i label point environment other = tt

  fail_advances : (c : Configuration) (i point : ℕ) (environment : Environment) (process : Process) → IfSome (after_fail P c i point environment process) (Advances 0 0 c)
  fail_advances c i point environment (Let pattern expression next otherwise) =
      kept (list_any (λ v. is_some (matched environment pattern v)) (values_at P environment expression))
    where
      kept : (b : Bool) → IfSome (cond b None (Some (goes_on c i (At (point_after (point + 1) next) environment)))) (Advances 0 0 c)
      kept true = tt
      kept false = goes_on_advances c i (At (point_after (point + 1) next) environment)
  fail_advances c i point environment other = tt

  mark_advances : (c : Configuration) (i point : ℕ) (environment : Environment) (process : Process) → IfSome (after_mark c i point environment process) (Advances 0 0 c)
  mark_advances c i point environment (Event performed next) =
      record { known = extends_itself c.known; events = extends_once c.events (record { event = performed.event; arguments = values_of environment performed.arguments }); next = omega arith; phase = omega arith; entries = extends_itself c.entries }
  mark_advances c i point environment other = tt

  put_advances : (c : Configuration) (i point : ℕ) (environment : Environment) (process : Process) → IfSome (after_put c i point environment process) (Advances 0 0 c)
  put_advances c i point environment (Insert table arguments next) = record {
    known = extends_itself c.known;
    events = extends_itself c.events;
    entries = extends_once c.entries (record { table = table; arguments = values_of environment arguments });
    next = omega arith;
    phase = omega arith;
  }
  put_advances c i point environment other = tt

  fetch_advances : (c : Configuration) (i e point : ℕ) (environment : Environment) (process : Process) → IfSome (after_fetch c i e point environment process) (Advances 0 0 c)
  fetch_advances c i e point environment (Get table patterns condition next otherwise) =
      if_some-map (Advances 0 0 c) (λ bindings. goes_on c i (At (point + 1) (environment ++ bindings)))
      (option_and_then (matched_entry environment table patterns condition) (numbered c.entries e))
      (λ bindings is. goes_on_advances c i (At (point + 1) (environment ++ bindings)))
  fetch_advances c i e point environment other = tt

  miss_advances : (c : Configuration) (i point : ℕ) (environment : Environment) (process : Process) → IfSome (after_miss c i point environment process) (Advances 0 0 c)
  miss_advances c i point environment (Get table patterns condition next otherwise) =
      kept (list_any (λ held. is_some (matched_entry environment table patterns condition held)) c.entries)
    where
      kept : (b : Bool) → IfSome (cond b None (Some (goes_on c i (At (point_after (point + 1) next) environment)))) (Advances 0 0 c)
      kept true = tt
      kept false = goes_on_advances c i (At (point_after (point + 1) next) environment)
  miss_advances c i point environment other = tt

  raised_advances : (c : Configuration) → Advances 0 1 c (raised P c)
  raised_advances c = record {
    known = extends_itself c.known;
    events = extends_itself c.events;
    entries = extends_itself c.entries;
    next = omega arith;
    phase = refl;
  }

  pub step_advances : (c : Configuration) (step : Step) → IfSome (after_step P c step) (Advances (names_made step) (phases_begun step) c)
  step_advances c (Build f ks) = kept (can_build P f (length ks))
    where
      kept : (b : Bool) → IfSome (cond b (option_map (λ vs. learns c (built f vs)) (known_values c ks)) None) (Advances 0 0 c)
      kept true = if_some-map (Advances 0 0 c) (λ vs. learns c (built f vs)) (known_values c ks) (λ vs is. learns_advances c (built f vs))
      kept false = tt
  step_advances c (Reduce d r ks) =
      if_some-then (Advances 0 0 c) (λ rule. option_map (learns c) (option_and_then (rule_value rule) (known_values c ks))) (numbered (rules_of P d) r)
      (λ rule is. if_some-map (Advances 0 0 c) (learns c) (option_and_then (rule_value rule) (known_values c ks)) (λ v found. learns_advances c v))
  step_advances c (Part k i) = if_some-map (Advances 0 0 c) (learns c) (option_and_then (part_of P i) (numbered c.known k)) (λ v found. learns_advances c v)
  step_advances c Fresh = record { known = extends_once c.known (Leaf (AttackerName c.next)); events = extends_itself c.events; next = refl; phase = omega arith; entries = extends_itself c.entries }
  step_advances c (Split i) = acting_any (Advances 0 0 c) c i (after_split c i) (split_advances c i)
  step_advances c (Copy i) = acting_any (Advances 0 0 c) c i (after_copy c) (copy_advances c)
  step_advances c (Make i) = acting_any (Advances 1 0 c) c i (after_make c i) (make_advances c i)
  step_advances c (Pass i j) = acting_any (Advances 0 0 c) c i (after_pass P c i j) (pass_advances c i j)
  step_advances c (Hear i) = acting_any (Advances 0 0 c) c i (after_hear c i) (hear_advances c i)
  step_advances c (Say j k) = if_some-then (Advances 0 0 c) (λ v. acting P c j (after_say c j v)) (numbered c.known k) (λ v is. acting_any (Advances 0 0 c) c j (after_say c j v) (say_advances c j v))
  step_advances c (Take i label) = acting_any (Advances 0 0 c) c i (after_take P c i label) (take_advances c i label)
  step_advances c (Fail i) = acting_any (Advances 0 0 c) c i (after_fail P c i) (fail_advances c i)
  step_advances c (Mark i) = acting_any (Advances 0 0 c) c i (after_mark c i) (mark_advances c i)
  step_advances c Next = if_some-cond (Advances 0 1 c) (nat_lt c.phase (greatest_phase P.main)) (raised P c) (raised_advances c)
  step_advances c (Put i) = acting_any (Advances 0 0 c) c i (after_put c i) (put_advances c i)
  step_advances c (Fetch i e) = acting_any (Advances 0 0 c) c i (after_fetch c i e) (fetch_advances c i e)
  step_advances c (Miss i) = acting_any (Advances 0 0 c) c i (after_miss c i) (miss_advances c i)

-- after steps all that was known, performed and written is so, in the same places
pub record Grows (c d : Configuration) : Type 0 where
  pub known : Extends c.known d.known
  pub events : Extends c.events d.events
  pub entries : Extends c.entries d.entries

pub steps_grow : (P : Protocol) (c d : Configuration) (steps : List Step) → after_steps P c steps ≡ Some d → Grows c d
steps_grow P c d steps is =
    if_some-is (Grows c) (after_steps P c steps) d
    (steps_keep P (Grows c) grows_on steps c (record { known = extends_itself c.known; events = extends_itself c.events; entries = extends_itself c.entries })) is
  where
    grows_on : (e : Configuration) (step : Step) → Grows c e → IfSome (after_step P e step) (Grows c)
    grows_on e step h = if_some-of (Grows c) (after_step P e step) (λ f at.
        let advance = if_some-is (Advances (names_made step) (phases_begun step) e) (after_step P e step) f (step_advances P e step) at in
        record {
          known = extends_on c.known e.known f.known h.known advance.known;
          events = extends_on c.events e.events f.events h.events advance.events;
          entries = extends_on c.entries e.entries f.entries h.entries advance.entries;
        })

contains_more : {A : Type 0} (xs more : List A) (x : A) → Contains xs x → Contains (xs ++ more) x
contains_more xs more x (k, within, at) =
    (k, omega (arith, length-append xs more), get_or_append_left xs more x k within ∙ at)

slice_get_more : {A : Type 0} (xs more : List A) (k : ℕ) (x : A) → slice_get xs k ≡ Some x → slice_get (xs ++ more) k ≡ Some x
slice_get_more [] more k x h = cc
slice_get_more (y ∷ xs) more zero x h = h
slice_get_more (y ∷ xs) more (suc k) x h = slice_get_more xs more k x h

-- a correspondence that is violated at a place stays so, since no later event stands before that place
unpreceded_more : (left : EventTerm) (alternatives : List (List EventTerm)) (events more : List Performed) (index : ℕ) → IsUnpreceded left alternatives events index → IsUnpreceded left alternatives (events ++ more) index
unpreceded_more left alternatives events more index h = record {
  environment = h.environment;
  is_instance = slice_get_more events more index (instance h.environment left) h.is_instance;
  unpreceded = λ extension alternative same among performed.
      let within : index ≤ length events = before_end in
      let earlier : take index (events ++ more) ≡ take index events = take-append-le index events more within in
      let Q : List Performed → Type 0 = λ earlier_events. AllPerformed extension alternative earlier_events in
      h.unpreceded extension alternative same among (subst Q earlier performed);
}
  where
    before_end : index ≤ length events
    before_end = let at : index < length events = slice_get_within events index (instance h.environment left) h.is_instance in omega arith

violated_more : (q : Query) (c d : Configuration) → Grows c d → IsOpen q d → IsViolated q c → IsViolated q d
violated_more (Secret message phase) c d grows still_open (h, k) =
    let Q : List Value → Type 0 = λ vs. Contains vs (value_of [] message) in
    (subst Q (sym grows.known.1) (contains_more c.known grows.known.0 (value_of [] message) h), still_open)
violated_more (SecretNew point phase) c d grows still_open ((number, h), k) =
    let Q : List Value → Type 0 = λ vs. Contains vs (Leaf (MadeName point number)) in
    ((number, subst Q (sym grows.known.1) (contains_more c.known grows.known.0 (Leaf (MadeName point number)) h)), still_open)
violated_more (Correspondence left alternatives) c d grows still_open (index, h) =
    let Q : List Performed → Type 0 = λ events. IsUnpreceded left alternatives events index in
    (index, subst Q (sym grows.events.1) (unpreceded_more left alternatives c.events grows.events.0 index h))

-- what is violated stays violated while the query is open
pub violation_stays : (P : Protocol) (q : Query) (c d : Configuration) (steps : List Step) → after_steps P c steps ≡ Some d → IsOpen q d → IsViolated q c → IsViolated q d
violation_stays P q c d steps is still_open h = violated_more q c d (steps_grow P c d steps is) still_open h

-- the clauses that callers cite
pub knowledge_grows : (P : Protocol) (c d : Configuration) (steps : List Step) → after_steps P c steps ≡ Some d → Extends c.known d.known
knowledge_grows P c d steps is = (steps_grow P c d steps is).known

pub events_grow : (P : Protocol) (c d : Configuration) (steps : List Step) → after_steps P c steps ≡ Some d → Extends c.events d.events
events_grow P c d steps is = (steps_grow P c d steps is).events

pub numbers_are_taken : (P : Protocol) (c d : Configuration) (step : Step) → after_step P c step ≡ Some d → d.next ≡ c.next + names_made step
numbers_are_taken P c d step is = (if_some-is (Advances (names_made step) (phases_begun step) c) (after_step P c step) d (step_advances P c step) is).next

pub entries_grow : (P : Protocol) (c d : Configuration) (steps : List Step) → after_steps P c steps ≡ Some d → Extends c.entries d.entries
entries_grow P c d steps is = (steps_grow P c d steps is).entries

pub phases_begin : (P : Protocol) (c d : Configuration) (step : Step) → after_step P c step ≡ Some d → d.phase ≡ c.phase + phases_begun step
phases_begin P c d step is = (if_some-is (Advances (names_made step) (phases_begun step) c) (after_step P c step) d (step_advances P c step) is).phase
