-- A restriction runs at most once for the same copies: no two threads reach one thing, and none what was made.
use Rattle.std.proofs.Common.{◌≡◌, ◌∙◌, ℕ, zero, suc, ◌+◌, ◌≤◌, Bool, true, false, ◌&&◌, cond, nat_eq, nat_lt, Option, Some, None, List, [], ◌∷◌, ◌++◌, map, length, length-append, refl, ap, sym, subst, arith}
use Rattle.std.specs.Prelude.{option_and_then, option_map, unwrap_or, slice_get, slice_set, is_some}
use Rattle.std.specs.Option.{option_map_or}
use Rattle.std.specs.List.{list_any}
use Rattle.std.proofs.lemmas.Bool.{eq-eqb}
use Rattle.spec_trees.specs.Tree.{Leaf}
use Rattle.spec_calculus.proofs.Items.{of_some, of_cond, of_then, of_map}
use Rattle.spec_clauses.specs.Inclusion.{Picks, here, there}
use Rattle.spec_calculus.specs.Syntax as calculus
use Rattle.spec_calculus.specs.Syntax.{Made, Pattern, Process, Nil, Output, Input, Parallel, Replication, New, Let, Event, Phase, Insert, Get, Protocol}
use Rattle.spec_calculus.specs.Points.{numbered, replaced, nodes, point_after, greatest_phase}
use Rattle.spec_calculus.specs.Values.{MadeName, AttackerName, Value, Environment, same_value, value_of, values_of}
use Rattle.spec_calculus.specs.Matching.{matched, rule_value, rules_of}
use Rattle.spec_calculus.specs.Tables.{matched_entry}
use Rattle.spec_calculus.specs.Choices.{value_at, values_at}
use Rattle.spec_calculus.specs.Runs.{Thread, At, Ended, Configuration, Step, Build, Reduce, Part, Fresh, Split, Copy, Make, Pass, Hear, Say, Take, Fail, Mark, Next, Put, Fetch, Miss, start, acting, learns, goes_on, begins, knows, known_values, can_build, built, part_of, after_split, after_copy, after_make, received, after_receipt, after_pass, after_hear, after_say, after_take, after_fail, after_mark, after_put, after_fetch, after_miss, at_phase, enters, raised, after_step, after_steps, run}
use Rattle.spec_calculus.specs.Runs as runs
use Rattle.spec_abstraction.specs.Trace.{Past, nothing_past, MadeAt, Trace, start_trace, past_of, message_at, gets, hears, entry_values, goes_with, point_of, standing_at, after_trace, trace_from, trace_of}
use Rattle.spec_abstraction.specs.OneToOne.{AreOnce}
use Rattle.spec_abstraction.proofs.Standing.{Stands, whole_stands, stands_numbered, output_next, input_next, parallel_left, parallel_right, replication_next, new_next, let_next, let_otherwise, event_next, phase_next, insert_next, get_next, get_otherwise}
use Rattle.spec_abstraction.proofs.Pairs.{SideBySide, pairs_map, pairs_append, numbered_pair, replaced_left}
use Rattle.spec_abstraction.proofs.Acting.{acted}
use Rattle.spec_abstraction.proofs.Reaching.{continues, same_numbers, weight, extent, is_below, reached, threads_reach, is_made_at, made_at, weight_small, goes_within, goes_apart, goes_copied, goes_made, threads_later, replaced_reach, begun_reach, heard_reach}

-- the same numbers are told to be
numbers_found : (ns : List ℕ) → same_numbers ns ns ≡ true
numbers_found [] = refl
numbers_found (n ∷ ns) = rw (eq-eqb n n refl) (numbers_found ns)

found_made : (q : ℕ) (u : List ℕ) (e : MadeAt) → e.point ≡ q → e.past.sessions ≡ u → is_made_at q u e ≡ true
found_made q u e at with_sessions =
    let first : same_numbers e.past.sessions u ≡ true = ap (same_numbers e.past.sessions) (sym with_sessions) ∙ numbers_found e.past.sessions in
    rw (first, eq-eqb e.point q at) refl

-- what stands in a list is counted, and where one alone is counted, no two stand there
counted : (q : ℕ) (u : List ℕ) {es rest : List MadeAt} {e : MadeAt} → Picks es e rest → is_made_at q u e ≡ true → 1 ≤ made_at q u es
counted q u (here {x = x} {xs = xs}) h = let one : weight (is_made_at q u x) ≡ 1 = ap weight h in omega (arith, one)
counted q u (there {y = y} {xs = xs} p) h = let others = counted q u p h in omega (arith, others)

one_counted : (q : ℕ) (u : List ℕ) {es rest left : List MadeAt} {e f : MadeAt} → Picks es e rest → Picks es f left → made_at q u es ≤ 1 → is_made_at q u e ≡ true → is_made_at q u f ≡ true → e ≡ f
one_counted q u here here few h k = refl
one_counted q u (here {x = x} {xs = xs}) (there p) few h k = let one : weight (is_made_at q u x) ≡ 1 = ap weight h in let others = counted q u p k in absurd (omega (arith, one, others, few))
one_counted q u (there p) (here {x = x} {xs = xs}) few h k = let one : weight (is_made_at q u x) ≡ 1 = ap weight k in let others = counted q u p h in absurd (omega (arith, one, others, few))
one_counted q u (there {y = y} {xs = xs} p) (there r) few h k = let fewer : made_at q u xs ≤ 1 = omega (arith, few) in one_counted q u p r fewer h k

pub counts_once : (made : List MadeAt) → ((q : ℕ) (u : List ℕ) → made_at q u made ≤ 1) → AreOnce made
counts_once made few e f has also points sessions =
    one_counted f.point f.past.sessions has.1 also.1 (few f.point f.past.sessions) (found_made f.point f.past.sessions e points sessions) (found_made f.point f.past.sessions f refl refl)

-- the thread stands at a point of the process
abbrev pub Placed : Process → Thread → Past → Type 0
Placed main (At point environment) past = (process : Process) × (above : ℕ) × Stands main point process above
Placed main Ended past = Unit {0}

-- Threads stand at points, and nothing is reached or made more than once.
pub record IsOnce (main : Process) (threads : List Thread) (t : Trace) : Type 0 where
  pub placed : SideBySide (Placed main) threads t.pasts
  pub once : (q : ℕ) (u : List ℕ) → threads_reach main t.copies q u threads t.pasts + made_at q u t.made ≤ 1

-- all that follows from where a process stands
extent_at : (main : Process) (point : ℕ) (process : Process) (above : ℕ) → Stands main point process above → extent main point ≡ length (nodes process)
extent_at main point process above s = ap (λ o. option_map_or (λ p. length (nodes p)) o 0) (stands_numbered main point process above s)

-- the lists stay side by side where a past is replaced
past_set : (main : Process) (threads : List Thread) (pasts : List Past) (k : ℕ) (past : Past) → SideBySide (Placed main) threads pasts → SideBySide (Placed main) threads (slice_set pasts k past)
past_set main [] [] k past a = tt
past_set main [] (p ∷ pasts) k past a = absurd a
past_set main (thread ∷ threads) [] k past a = absurd a
past_set main (At point environment ∷ threads) (p ∷ pasts) zero past a = a
past_set main (Ended ∷ threads) (p ∷ pasts) zero past a = a
past_set main (thread ∷ threads) (p ∷ pasts) (suc k) past a = (a.0, past_set main threads pasts k past a.1)

past_replaced : (main : Process) (threads : List Thread) (pasts : List Past) (n : ℕ) (past : Past) → SideBySide (Placed main) threads pasts → SideBySide (Placed main) threads (replaced pasts n past)
past_replaced main threads pasts zero past a = a
past_replaced main threads pasts (suc k) past a = past_set main threads pasts k past a

-- another thread than the one that is replaced
other_set : {X : Type 0} (xs : List X) (k m : ℕ) (x : X) → (k ≡ m → ⊥) → slice_get (slice_set xs k x) m ≡ slice_get xs m
other_set [] k m x other = refl
other_set (y ∷ xs) zero zero x other = absurd (other refl)
other_set (y ∷ xs) zero (suc m) x other = refl
other_set (y ∷ xs) (suc k) zero x other = refl
other_set (y ∷ xs) (suc k) (suc m) x other = other_set xs k m x (λ e. other (ap suc e))

other_replaced : {X : Type 0} (xs : List X) (n m : ℕ) (x : X) → (n ≡ m → ⊥) → numbered (replaced xs n x) m ≡ numbered xs m
other_replaced xs zero m x other = refl
other_replaced xs (suc k) zero x other = refl
other_replaced xs (suc k) (suc m) x other = other_set xs k m x (λ e. other (ap suc e))

-- where a past has messages more
gets_once : (main : Process) (threads : List Thread) (t : Trace) (n : ℕ) (vs : List Value) → IsOnce main threads t → IsOnce main threads (gets t n vs)
gets_once main threads t n vs a =
    let past : Past = record (past_of t n) { messages = (past_of t n).messages ++ vs } in record {
      placed = past_replaced main threads t.pasts n past a.placed;
      once = λ q u. let same = heard_reach main q u t.copies threads t.pasts n past refl in let before = a.once q u in omega (arith, same, before);
    }

hears_once : (main : Process) (threads : List Thread) (t : Trace) (n : ℕ) (o : Option Value) → IsOnce main threads t → IsOnce main threads (hears t n o)
hears_once main threads t n None a = a
hears_once main threads t n (Some v) a = gets_once main threads t n (v ∷ []) a

module _ (main : Process) where
  -- a thread that goes on reaches no more than before
  abbrev Narrows : ℕ → Thread → Type 0
  Narrows point thread = (copies q : ℕ) (u ss : List ℕ) (environment : Environment) → reached main copies q u thread ss ≤ reached main copies q u (At point environment) ss

  narrows : (point next above below : ℕ) (process rest : Process) (bound : Environment) → Stands main point process above → Stands main next rest below → point ≤ next → next + length (nodes rest) ≤ point + length (nodes process) → Narrows point (At next bound)
  narrows point next above below process rest bound s r after before copies q u ss environment =
      let one = extent_at main point process above s in
      let two = extent_at main next rest below r in
      goes_within main q u copies point next environment bound ss after (omega (arith, one, two, before))

  goes_once : (threads : List Thread) (t : Trace) (n point : ℕ) (environment : Environment) (thread : Thread) → numbered threads n ≡ Some (At point environment) → Placed main thread (past_of t n) → Narrows point thread → IsOnce main threads t → IsOnce main (replaced threads n thread) t
  goes_once threads t n point environment thread at placed narrow a = record {
    placed = replaced_left (Placed main) threads t.pasts n thread nothing_past a.placed placed;
    once = λ q u.
        let same = replaced_reach main q u t.copies threads t.pasts n (At point environment) thread (Placed main) a.placed at in
        let less = narrow t.copies q u (past_of t n).sessions environment in
        let before = a.once q u in omega (arith, same, less, before);
  }

  -- an input's thread, once it has received
  received_placed : (point above : ℕ) (environment : Environment) (next : Process) (o : Option Environment) (past : Past) → Stands main (point + 1) next above → Placed main (received point environment o) past
  received_placed point above environment next None past s = tt
  received_placed point above environment next (Some bs) past s = (next, above, s)

  received_narrows : (point above below : ℕ) (environment : Environment) (process next : Process) (o : Option Environment) → Stands main point process above → Stands main (point + 1) next below → 1 + length (nodes next) ≤ length (nodes process) → Narrows point (received point environment o)
  received_narrows point above below environment process next None s r fits = λ copies q u ss environment. omega arith
  received_narrows point above below environment process next (Some bs) s r fits = narrows point (point + 1) above below process next (environment ++ bs) s r (omega arith) (omega (arith, fits))

module _ (P : Protocol) where
  -- where an acting thread stands
  stands_there : (threads : List Thread) (t : Trace) (n point : ℕ) (environment : Environment) (process : Process) → IsOnce P.main threads t → numbered threads n ≡ Some (At point environment) → numbered (nodes P.main) point ≡ Some process → (above : ℕ) × Stands P.main point process above
  stands_there threads t n point environment process a thread stands =
      let (found, above, s) = numbered_pair (Placed P.main) threads t.pasts n (At point environment) nothing_past a.placed thread in
      let same : found ≡ process = of_some found process (sym (stands_numbered P.main point found above s) ∙ stands) in
      (above, subst (λ p. Stands P.main point p above) same s)

  module _ (c : Configuration) (t : Trace) (a : IsOnce P.main c.threads t) where
    -- a thread that goes on to the next point
    next_once : (n point above below : ℕ) (environment bound : Environment) (process next : Process) → numbered c.threads n ≡ Some (At point environment) → Stands P.main point process above → Stands P.main (point + 1) next below → 1 + length (nodes next) ≤ length (nodes process) → IsOnce P.main (replaced c.threads n (At (point + 1) bound)) t
    next_once n point above below environment bound process next at s r fits =
        goes_once P.main c.threads t n point environment (At (point + 1) bound) at (next, below, r) (narrows P.main point (point + 1) above below process next bound s r (omega arith) (omega (arith, fits))) a

    split_once : (n point above : ℕ) (environment : Environment) (process : Process) (d : Configuration) → numbered c.threads n ≡ Some (At point environment) → Stands P.main point process above → after_split c n point environment process ≡ Some d → IsOnce P.main d.threads (goes_with t (past_of t n))
    split_once n point above environment (Parallel left right) d at s e =
        let first = parallel_left P.main point above left right s in
        let second = parallel_right P.main point above left right s in
        let one = At (point + 1) environment in
        let two = At (point_after (point + 1) left) environment in
        let threads = replaced c.threads n one in
        let placed = replaced_left (Placed P.main) c.threads t.pasts n one nothing_past a.placed (left, above, first) in
        let after : IsOnce P.main (threads ++ two ∷ []) (goes_with t (past_of t n)) = record {
          placed = pairs_append (Placed P.main) threads t.pasts two (past_of t n) placed (right, above, second);
          once = λ q u.
              let begun = begun_reach P.main q u t.copies threads t.pasts two (past_of t n) (Placed P.main) placed in
              let same = replaced_reach P.main q u t.copies c.threads t.pasts n (At point environment) one (Placed P.main) a.placed at in
              let whole = extent_at P.main point (Parallel left right) above s in
              let left_size = extent_at P.main (point + 1) left above first in
              let right_size = extent_at P.main (point_after (point + 1) left) right above second in
              let sum : length (nodes left ++ nodes right) ≡ length (nodes left) + length (nodes right) = length-append (nodes left) (nodes right) in
              let apart = goes_apart P.main q u t.copies point (point + 1) (point_after (point + 1) left) environment (past_of t n).sessions (omega arith) (omega (arith, left_size)) (omega (arith, whole, right_size, sum)) in
              let before = a.once q u in omega (arith, begun, same, apart, before);
        } in
        subst (λ d. IsOnce P.main d.threads (goes_with t (past_of t n))) (of_some (begins (goes_on c n one) two) d e) after
    split_once n point above environment _ d at s e = cc

    copy_once : (n point above : ℕ) (environment : Environment) (process : Process) (d : Configuration) → numbered c.threads n ≡ Some (At point environment) → Stands P.main point process above → after_copy c point environment process ≡ Some d → IsOnce P.main d.threads (after_trace P c t (Copy n))
    copy_once n point above environment (Replication copied) d at s e =
        let next = replication_next P.main point above copied s in
        let thread = At (point + 1) environment in
        let past : Past = record (past_of t n) { sessions = (past_of t n).sessions ++ t.copies ∷ [] } in
        let after : IsOnce P.main (c.threads ++ thread ∷ []) (after_trace P c t (Copy n)) = record {
          placed = pairs_append (Placed P.main) c.threads t.pasts thread past a.placed (copied, above + 1, next);
          once = λ q u.
              let old = At point environment in
              let begun = begun_reach P.main q u (t.copies + 1) c.threads t.pasts thread past (Placed P.main) a.placed in
              let ended = replaced_reach P.main q u t.copies c.threads t.pasts n old Ended (Placed P.main) a.placed at in
              let ended_later = replaced_reach P.main q u (t.copies + 1) c.threads t.pasts n old Ended (Placed P.main) a.placed at in
              let others = threads_later P.main q u t.copies (replaced c.threads n Ended) t.pasts in
              let whole = extent_at P.main point (Replication copied) above s in
              let size = extent_at P.main (point + 1) copied (above + 1) next in
              let both = goes_copied P.main q u t.copies point environment (past_of t n).sessions (omega (arith, whole, size)) in
              let before = a.once q u in omega (arith, begun, ended, ended_later, others, both, before);
        } in
        subst (λ d. IsOnce P.main d.threads (after_trace P c t (Copy n))) (of_some (begins c thread) d e) after
    copy_once n point above environment _ d at s e = cc

    make_once : (n point above : ℕ) (environment : Environment) (process : Process) (d : Configuration) → numbered c.threads n ≡ Some (At point environment) → Stands P.main point process above → after_make c n point environment process ≡ Some d → IsOnce P.main d.threads (after_trace P c t (Make n))
    make_once n point above environment (New word next) d at s e =
        let r = new_next P.main point above word next s in
        let bound = environment ++ record { name = Made point; value = Leaf (MadeName point c.next) } ∷ [] in
        let thread = At (point + 1) bound in
        let where_made : unwrap_or (standing_at c n) 0 ≡ point = ap (λ o. unwrap_or (option_and_then point_of o) 0) at in
        let after : IsOnce P.main (replaced c.threads n thread) (after_trace P c t (Make n)) = record {
          placed = replaced_left (Placed P.main) c.threads t.pasts n thread nothing_past a.placed (next, above, r);
          once = λ q u.
              let same = replaced_reach P.main q u t.copies c.threads t.pasts n (At point environment) thread (Placed P.main) a.placed at in
              let whole = extent_at P.main point (New word next) above s in
              let size = extent_at P.main (point + 1) next above r in
              let both = goes_made P.main q u t.copies point c.next environment bound (past_of t n) (omega (arith, whole, size)) in
              let entry : weight (is_made_at q u (record { number = c.next; point = unwrap_or (standing_at c n) 0; past = past_of t n })) ≡ weight (is_made_at q u (record { number = c.next; point = point; past = past_of t n })) = ap (λ p. weight (same_numbers (past_of t n).sessions u && nat_eq p q)) where_made in
              let before = a.once q u in omega (arith, same, both, entry, before);
        } in
        subst (λ d. IsOnce P.main d.threads (after_trace P c t (Make n))) (of_some (runs.names (goes_on c n thread)) d e) after
    make_once n point above environment _ d at s e = cc

    hear_once : (n point above : ℕ) (environment : Environment) (process : Process) (d : Configuration) → numbered c.threads n ≡ Some (At point environment) → Stands P.main point process above → after_hear c n point environment process ≡ Some d → IsOnce P.main d.threads t
    hear_once n point above environment (Output channel message next) d at s e =
        let after : Configuration = learns (goes_on c n (At (point + 1) environment)) (value_of environment message) in
        let (found, is) = of_cond (knows c (value_of environment channel)) (Some after) d e in
        subst (λ d. IsOnce P.main d.threads t) (of_some after d is) (next_once n point above above environment environment (Output channel message next) next at s (output_next P.main point above channel message next s) (omega arith))
    hear_once n point above environment _ d at s e = cc

    say_once : (n point above : ℕ) (v : Value) (environment : Environment) (process : Process) (d : Configuration) → numbered c.threads n ≡ Some (At point environment) → Stands P.main point process above → after_say c n v point environment process ≡ Some d → IsOnce P.main d.threads t
    say_once n point above v environment (Input channel pattern next) d at s e =
        let o = matched environment pattern v in
        let after : Configuration = goes_on c n (received point environment o) in
        let (found, is) = of_cond (knows c (value_of environment channel)) (Some after) d e in
        let r = input_next P.main point above channel pattern next s in
        subst (λ d. IsOnce P.main d.threads t) (of_some after d is)
        (goes_once P.main c.threads t n point environment (received point environment o) at (received_placed P.main point (above + 1) environment next o (past_of t n) r) (received_narrows P.main point above (above + 1) environment (Input channel pattern next) next o s r (omega arith)) a)
    say_once n point above v environment _ d at s e = cc

    take_once : (n : ℕ) (label : List ℕ) (point above : ℕ) (environment : Environment) (process : Process) (d : Configuration) → numbered c.threads n ≡ Some (At point environment) → Stands P.main point process above → after_take P c n label point environment process ≡ Some d → IsOnce P.main d.threads t
    take_once n label point above environment (Let pattern expression next otherwise) d at s e =
        let (bs, chosen, is) = of_map (λ bs. goes_on c n (At (point + 1) (environment ++ bs))) (option_and_then (matched environment pattern) (value_at P environment expression label)) d e in
        let sum : length (nodes next ++ nodes otherwise) ≡ length (nodes next) + length (nodes otherwise) = length-append (nodes next) (nodes otherwise) in
        subst (λ d. IsOnce P.main d.threads t) is
        (next_once n point above above environment (environment ++ bs) (Let pattern expression next otherwise) next at s (let_next P.main point above pattern expression next otherwise s) (omega (arith, sum)))
    take_once n label point above environment _ d at s e = cc

    fail_once : (n point above : ℕ) (environment : Environment) (process : Process) (d : Configuration) → numbered c.threads n ≡ Some (At point environment) → Stands P.main point process above → after_fail P c n point environment process ≡ Some d → IsOnce P.main d.threads t
    fail_once n point above environment (Let pattern expression next otherwise) d at s e =
        go (list_any (λ v. is_some (matched environment pattern v)) (values_at P environment expression)) e
      where
        go : (b : Bool) → cond b None (Some (goes_on c n (At (point_after (point + 1) next) environment))) ≡ Some d → IsOnce P.main d.threads t
        go true h = cc
        go false h =
            let thread = At (point_after (point + 1) next) environment in
            let r = let_otherwise P.main point above pattern expression next otherwise s in
            let sum : length (nodes next ++ nodes otherwise) ≡ length (nodes next) + length (nodes otherwise) = length-append (nodes next) (nodes otherwise) in
            subst (λ d. IsOnce P.main d.threads t) (of_some (goes_on c n thread) d h)
            (goes_once P.main c.threads t n point environment thread at (otherwise, above, r)
            (narrows P.main point (point_after (point + 1) next) above above (Let pattern expression next otherwise) otherwise environment s r (omega arith) (omega (arith, sum))) a)
    fail_once n point above environment _ d at s e = cc

    mark_once : (n point above : ℕ) (environment : Environment) (process : Process) (d : Configuration) → numbered c.threads n ≡ Some (At point environment) → Stands P.main point process above → after_mark c n point environment process ≡ Some d → IsOnce P.main d.threads t
    mark_once n point above environment (Event performed next) d at s e =
        let after : Configuration = runs.performs (goes_on c n (At (point + 1) environment)) (record { event = performed.event; arguments = values_of environment performed.arguments }) in
        subst (λ d. IsOnce P.main d.threads t) (of_some after d e) (next_once n point above above environment environment (Event performed next) next at s (event_next P.main point above performed next s) (omega arith))
    mark_once n point above environment _ d at s e = cc

    put_once : (n point above : ℕ) (environment : Environment) (process : Process) (d : Configuration) → numbered c.threads n ≡ Some (At point environment) → Stands P.main point process above → after_put c n point environment process ≡ Some d → IsOnce P.main d.threads t
    put_once n point above environment (Insert table arguments next) d at s e =
        let after : Configuration = runs.writes (goes_on c n (At (point + 1) environment)) (record { table = table; arguments = values_of environment arguments }) in
        subst (λ d. IsOnce P.main d.threads t) (of_some after d e) (next_once n point above above environment environment (Insert table arguments next) next at s (insert_next P.main point above table arguments next s) (omega arith))
    put_once n point above environment _ d at s e = cc

    fetch_once : (n k point above : ℕ) (environment : Environment) (process : Process) (d : Configuration) → numbered c.threads n ≡ Some (At point environment) → Stands P.main point process above → after_fetch c n k point environment process ≡ Some d → IsOnce P.main d.threads t
    fetch_once n k point above environment (Get table patterns condition next otherwise) d at s e =
        let (bs, chosen, is) = of_map (λ bs. goes_on c n (At (point + 1) (environment ++ bs))) (option_and_then (matched_entry environment table patterns condition) (numbered c.entries k)) d e in
        let sum : length (nodes next ++ nodes otherwise) ≡ length (nodes next) + length (nodes otherwise) = length-append (nodes next) (nodes otherwise) in
        subst (λ d. IsOnce P.main d.threads t) is
        (next_once n point above (above + length patterns) environment (environment ++ bs) (Get table patterns condition next otherwise) next at s (get_next P.main point above table patterns condition next otherwise s) (omega (arith, sum)))
    fetch_once n k point above environment _ d at s e = cc

    miss_once : (n point above : ℕ) (environment : Environment) (process : Process) (d : Configuration) → numbered c.threads n ≡ Some (At point environment) → Stands P.main point process above → after_miss c n point environment process ≡ Some d → IsOnce P.main d.threads t
    miss_once n point above environment (Get table patterns condition next otherwise) d at s e =
        go (list_any (λ held. is_some (matched_entry environment table patterns condition held)) c.entries) e
      where
        go : (b : Bool) → cond b None (Some (goes_on c n (At (point_after (point + 1) next) environment))) ≡ Some d → IsOnce P.main d.threads t
        go true h = cc
        go false h =
            let thread = At (point_after (point + 1) next) environment in
            let r = get_otherwise P.main point above table patterns condition next otherwise s in
            let sum : length (nodes next ++ nodes otherwise) ≡ length (nodes next) + length (nodes otherwise) = length-append (nodes next) (nodes otherwise) in
            subst (λ d. IsOnce P.main d.threads t) (of_some (goes_on c n thread) d h)
            (goes_once P.main c.threads t n point environment thread at (otherwise, above, r)
            (narrows P.main point (point_after (point + 1) next) above above (Get table patterns condition next otherwise) otherwise environment s r (omega arith) (omega (arith, sum))) a)
    miss_once n point above environment _ d at s e = cc

    -- the one that sends is not the one that receives, since no point is both an output and an input
    receipt_once : (sender receiver from point above : ℕ) (environment bound : Environment) (channel message : Value) (output process : Process) (d : Configuration) → IsOnce P.main (replaced c.threads sender (At (from + 1) bound)) t → numbered c.threads sender ≡ Some (At from bound) → numbered (nodes P.main) from ≡ Some output → ((on : calculus.Term) (pattern : Pattern) (next : Process) → output ≡ Input on pattern next → ⊥) → numbered c.threads receiver ≡ Some (At point environment) → numbered (nodes P.main) point ≡ Some process → Stands P.main point process above → after_receipt c sender receiver (At (from + 1) bound) channel message point environment process ≡ Some d → IsOnce P.main d.threads t
    receipt_once sender receiver from point above environment bound channel message output (Input on pattern next) d sent from_there is_output no_input at is_input s e =
        let o = matched environment pattern message in
        let thread = received point environment o in
        let after : Configuration = goes_on (goes_on c sender (At (from + 1) bound)) receiver thread in
        let (found, is) = of_cond (same_value channel (value_of environment on)) (Some after) d e in
        let other : sender ≡ receiver → ⊥ = λ same.
        let threads : Some (At from bound) ≡ Some (At point environment) = sym from_there ∙ (ap (numbered c.threads) same ∙ at) in
        let points : from ≡ point = cc in
        let processes : Some output ≡ Some (Input on pattern next) = sym is_output ∙ (ap (numbered (nodes P.main)) points ∙ is_input) in
        no_input on pattern next (of_some output (Input on pattern next) processes) in
        let still : numbered (replaced c.threads sender (At (from + 1) bound)) receiver ≡ Some (At point environment) = other_replaced c.threads sender receiver (At (from + 1) bound) other ∙ at in
        let r = input_next P.main point above on pattern next s in
        subst (λ d. IsOnce P.main d.threads t) (of_some after d is)
        (goes_once P.main (replaced c.threads sender (At (from + 1) bound)) t receiver point environment thread still (received_placed P.main point (above + 1) environment next o (past_of t receiver) r) (received_narrows P.main point above (above + 1) environment (Input on pattern next) next o s r (omega arith)) sent)
    receipt_once sender receiver from point above environment bound channel message output _ d sent from_there is_output no_input at is_input s e = cc

    pass_once : (sender receiver point above : ℕ) (environment : Environment) (process : Process) (d : Configuration) → numbered c.threads sender ≡ Some (At point environment) → numbered (nodes P.main) point ≡ Some process → Stands P.main point process above → after_pass P c sender receiver point environment process ≡ Some d → IsOnce P.main d.threads t
    pass_once sender receiver point above environment (Output channel message next) d at is s e =
        let r = acted P c receiver (after_receipt c sender receiver (At (point + 1) environment) (value_of environment channel) (value_of environment message)) d e in
        let (over, below) = stands_there c.threads t receiver r.point r.environment r.process a r.thread r.stands in
        let sent = next_once sender point above above environment environment (Output channel message next) next at s (output_next P.main point above channel message next s) (omega arith) in
        receipt_once sender receiver point r.point over r.environment environment (value_of environment channel) (value_of environment message) (Output channel message next) r.process d sent at is (λ on pattern next e. cc) r.thread r.stands below r.is
    pass_once sender receiver point above environment _ d at is s e = cc

  -- a thread when a phase begins: it stands at a point, and reaches no more than before
  enters_placed : (n : ℕ) (thread : Thread) (past : Past) → Placed P.main thread past → Placed P.main (enters P n thread) past
  enters_placed n Ended past a = tt
  enters_placed n (At point environment) past a =
      subst (λ o. Placed P.main (at_phase n point environment o) past) (sym (stands_numbered P.main point a.0 a.1 a.2)) (of_process a.0 a.2)
    where
      of_process : (process : Process) → Stands P.main point process a.1 → Placed P.main (at_phase n point environment (Some process)) past
      of_process (Phase number next) s = go (nat_eq number n) (nat_lt n number)
        where
          go : (begins waits : Bool) → Placed P.main (cond begins (At (point + 1) environment) (cond waits (At point environment) Ended)) past
          go true waits = (next, a.1, phase_next P.main point a.1 number next s)
          go false true = (Phase number next, a.1, s)
          go false false = tt
      of_process _ s = tt

  module _ (n q : ℕ) (u : List ℕ) (copies : ℕ) where
    enters_reach : (thread : Thread) (past : Past) → Placed P.main thread past → reached P.main copies q u (enters P n thread) past.sessions ≤ reached P.main copies q u thread past.sessions
    enters_reach Ended past a = omega arith
    enters_reach (At point environment) past a =
        subst (λ o. reached P.main copies q u (at_phase n point environment o) past.sessions ≤ before) (sym (stands_numbered P.main point a.0 a.1 a.2)) (of_process a.0 a.2)
      where
        before : ℕ
        before = reached P.main copies q u (At point environment) past.sessions

        of_process : (process : Process) → Stands P.main point process a.1 → reached P.main copies q u (at_phase n point environment (Some process)) past.sessions ≤ before
        of_process (Phase number next) s = go (nat_eq number n) (nat_lt n number)
          where
            go : (begins waits : Bool) → reached P.main copies q u (cond begins (At (point + 1) environment) (cond waits (At point environment) Ended)) past.sessions ≤ before
            go true waits = narrows P.main point (point + 1) a.1 a.1 (Phase number next) next environment s (phase_next P.main point a.1 number next s) (omega arith) (omega arith) copies q u past.sessions environment
            go false true = omega arith
            go false false = omega arith
        of_process _ s = omega arith

    all_enter_reach : (threads : List Thread) (pasts : List Past) → SideBySide (Placed P.main) threads pasts → threads_reach P.main copies q u (map (enters P n) threads) pasts ≤ threads_reach P.main copies q u threads pasts
    all_enter_reach [] pasts a = omega arith
    all_enter_reach (thread ∷ threads) [] a = omega arith
    all_enter_reach (thread ∷ threads) (past ∷ pasts) a = let first = enters_reach thread past a.0 in let others = all_enter_reach threads pasts a.1 in omega (arith, first, others)

  raised_once : (c : Configuration) (t : Trace) → IsOnce P.main c.threads t → IsOnce P.main (raised P c).threads t
  raised_once c t a = record {
    placed = pairs_map (Placed P.main) (Placed P.main) (enters P (c.phase + 1)) (enters_placed (c.phase + 1)) c.threads t.pasts a.placed;
    once = λ q u. let less = all_enter_reach (c.phase + 1) q u t.copies c.threads t.pasts a.placed in let before = a.once q u in omega (arith, less, before);
  }

  -- Each step keeps it.
  step_once : (c d : Configuration) (t : Trace) (step : Step) → after_step P c step ≡ Some d → IsOnce P.main c.threads t → IsOnce P.main d.threads (after_trace P c t step)
  step_once c d t (Build f ks) e a =
      let (can, rest) = of_cond (can_build P f (length ks)) (option_map (λ vs. learns c (built f vs)) (known_values c ks)) d e in
      let (vs, found, is) = of_map (λ vs. learns c (built f vs)) (known_values c ks) d rest in
      subst (λ d. IsOnce P.main d.threads t) is a
  step_once c d t (Reduce n r ks) e a =
      let (rule, stands, rest) = of_then (λ rule. option_map (learns c) (option_and_then (rule_value rule) (known_values c ks))) (numbered (rules_of P n) r) d e in
      let (v, gives, is) = of_map (learns c) (option_and_then (rule_value rule) (known_values c ks)) d rest in
      subst (λ d. IsOnce P.main d.threads t) is a
  step_once c d t (Part k n) e a =
      let (w, gives, is) = of_map (learns c) (option_and_then (part_of P n) (numbered c.known k)) d e in
      subst (λ d. IsOnce P.main d.threads t) is a
  step_once c d t Fresh e a = subst (λ d. IsOnce P.main d.threads t) (of_some (runs.names (learns c (Leaf (AttackerName c.next)))) d e) a
  step_once c d t (Split n) e a =
      let r = acted P c n (after_split c n) d e in
      let (above, s) = stands_there c.threads t n r.point r.environment r.process a r.thread r.stands in
      split_once c t a n r.point above r.environment r.process d r.thread s r.is
  step_once c d t (Copy n) e a =
      let r = acted P c n (after_copy c) d e in
      let (above, s) = stands_there c.threads t n r.point r.environment r.process a r.thread r.stands in
      copy_once c t a n r.point above r.environment r.process d r.thread s r.is
  step_once c d t (Make n) e a =
      let r = acted P c n (after_make c n) d e in
      let (above, s) = stands_there c.threads t n r.point r.environment r.process a r.thread r.stands in
      make_once c t a n r.point above r.environment r.process d r.thread s r.is
  step_once c d t (Pass n m) e a =
      let r = acted P c n (after_pass P c n m) d e in
      let (above, s) = stands_there c.threads t n r.point r.environment r.process a r.thread r.stands in
      hears_once P.main d.threads t m (acting P c n message_at) (pass_once c t a n m r.point above r.environment r.process d r.thread r.stands s r.is)
  step_once c d t (Hear n) e a =
      let r = acted P c n (after_hear c n) d e in
      let (above, s) = stands_there c.threads t n r.point r.environment r.process a r.thread r.stands in
      hear_once c t a n r.point above r.environment r.process d r.thread s r.is
  step_once c d t (Say m k) e a =
      let (v, stands, rest) = of_then (λ v. acting P c m (after_say c m v)) (numbered c.known k) d e in
      let r = acted P c m (after_say c m v) d rest in
      let (above, s) = stands_there c.threads t m r.point r.environment r.process a r.thread r.stands in
      hears_once P.main d.threads t m (numbered c.known k) (say_once c t a m r.point above v r.environment r.process d r.thread s r.is)
  step_once c d t (Take n label) e a =
      let r = acted P c n (after_take P c n label) d e in
      let (above, s) = stands_there c.threads t n r.point r.environment r.process a r.thread r.stands in
      take_once c t a n label r.point above r.environment r.process d r.thread s r.is
  step_once c d t (Fail n) e a =
      let r = acted P c n (after_fail P c n) d e in
      let (above, s) = stands_there c.threads t n r.point r.environment r.process a r.thread r.stands in
      fail_once c t a n r.point above r.environment r.process d r.thread s r.is
  step_once c d t (Mark n) e a =
      let r = acted P c n (after_mark c n) d e in
      let (above, s) = stands_there c.threads t n r.point r.environment r.process a r.thread r.stands in
      mark_once c t a n r.point above r.environment r.process d r.thread s r.is
  step_once c d t Next e a =
      let (before, is) = of_cond (nat_lt c.phase (greatest_phase P.main)) (Some (raised P c)) d e in
      subst (λ d. IsOnce P.main d.threads t) (of_some (raised P c) d is) (raised_once c t a)
  step_once c d t (Put n) e a =
      let r = acted P c n (after_put c n) d e in
      let (above, s) = stands_there c.threads t n r.point r.environment r.process a r.thread r.stands in
      put_once c t a n r.point above r.environment r.process d r.thread s r.is
  step_once c d t (Fetch n k) e a =
      let r = acted P c n (after_fetch c n k) d e in
      let (above, s) = stands_there c.threads t n r.point r.environment r.process a r.thread r.stands in
      gets_once P.main d.threads t n (entry_values c k) (fetch_once c t a n k r.point above r.environment r.process d r.thread s r.is)
  step_once c d t (Miss n) e a =
      let r = acted P c n (after_miss c n) d e in
      let (above, s) = stands_there c.threads t n r.point r.environment r.process a r.thread r.stands in
      miss_once c t a n r.point above r.environment r.process d r.thread s r.is

  steps_once : (steps : List Step) (c d : Configuration) (t : Trace) → after_steps P c steps ≡ Some d → IsOnce P.main c.threads t → IsOnce P.main d.threads (trace_from P c t steps)
  steps_once [] c d t e a = let same : c ≡ d = cc in subst (λ x. IsOnce P.main x.threads t) same a
  steps_once (step ∷ steps) c d t e a =
      let (x, made, rest) = of_then (λ x. after_steps P x steps) (after_step P c step) d e in
      let onward : trace_from P c t (step ∷ steps) ≡ trace_from P x (after_trace P c t step) steps = ap (λ o. option_map_or (λ y. trace_from P y (after_trace P c t step) steps) o t) made in
      subst (λ w. IsOnce P.main d.threads w) (sym onward) (steps_once steps x d (after_trace P c t step) rest (step_once c x t step made a))

  -- In a run each restriction makes at most one name for the same copies.
  pub runs_make_once : (steps : List Step) (c : Configuration) → run P steps ≡ Some c → AreOnce (trace_of P steps).made
  runs_make_once steps c e =
      let first : IsOnce P.main (start P).threads start_trace = record {
        placed = ((P.main, 0, whole_stands P.main), tt);
        once = λ q u. let small = weight_small (continues 0 [] u && is_below 1 (extent P.main 1) q) in omega (arith, small);
      } in
      let last = steps_once steps (start P) c start_trace e first in
      counts_once (trace_of P steps).made (λ q u. let h = last.once q u in omega (arith, h))
