-- A step adds at most one thread, one known value and one entry.
use Rattle.std.proofs.Common.{◌≡◌, ℕ, zero, suc, ◌+◌, ◌≤◌, Bool, true, false, nat_lt, cond, List, [], ◌∷◌, ◌++◌, length, slice_set, Option, Some, None, IfSome, option_and_then, option_map, is_some, filter_map, arith, length-append}
use Rattle.std.proofs.lemmas.List.{length-map}
use Rattle.std.specs.List.{list_any, cons_option, enumerate_from}
use Rattle.std.proofs.lemmas.List.FromFn.{length-enumerate_from}
use Rattle.spec_calculus.specs.Syntax.{Made, Process, Output, Input, Parallel, Replication, New, Let, Event, Insert, Get, Protocol}
use Rattle.spec_calculus.specs.Points.{numbered, replaced, nodes, point_after, greatest_phase}
use Rattle.spec_trees.specs.Tree.{Leaf}
use Rattle.spec_calculus.specs.Values.{MadeName, AttackerName, Value, Environment, same_value, value_of, values_of}
use Rattle.spec_calculus.specs.Matching.{matched, rule_value, rules_of}
use Rattle.spec_calculus.specs.Tables.{matched_entry}
use Rattle.spec_calculus.specs.Choices.{value_at, values_at}
use Rattle.spec_calculus.specs.Runs.{Thread, At, Ended, Configuration, Step, Build, Reduce, Part, Fresh, Split, Copy, Make, Pass, Hear, Say, Take, Fail, Mark, Next, Put, Fetch, Miss, acts, acting, knows, learns, goes_on, known_values, can_build, built, part_of, received, after_split, after_copy, after_make, after_receipt, after_pass, after_hear, after_say, after_take, after_fail, after_mark, after_put, after_fetch, after_miss, enters, raised, after_step, public_name, start}
use Rattle.spec_calculus.proofs.Items.{if_some-is, if_some-cond, if_some-then, if_some-map}

pub record AddsFew (c d : Configuration) : Type 0 where
  pub threads : length d.threads ≤ length c.threads + 1
  pub known : length d.known ≤ length c.known + 1
  pub entries : length d.entries ≤ length c.entries + 1

length-slice_set : {A : Type 0} (xs : List A) (k : ℕ) (x : A) → length (slice_set xs k x) ≡ length xs
length-slice_set [] k x = omega arith
length-slice_set (y ∷ xs) zero x = omega arith
length-slice_set (y ∷ xs) (suc k) x = let e = length-slice_set xs k x in omega (arith, e)

pub length-replaced : {A : Type 0} (xs : List A) (n : ℕ) (x : A) → length (replaced xs n x) ≡ length xs
length-replaced xs zero x = omega arith
length-replaced xs (suc k) x = length-slice_set xs k x

length-once : {A : Type 0} (xs : List A) (x : A) → length (xs ++ x ∷ []) ≡ length xs + 1
length-once xs x = length-append xs (x ∷ [])

learns_few : (c : Configuration) (v : Value) → AddsFew c (learns c v)
learns_few c v = record { threads = omega arith; known = omega (arith, length-once c.known v); entries = omega arith }

goes_on_few : (c : Configuration) (i : ℕ) (thread : Thread) → AddsFew c (goes_on c i thread)
goes_on_few c i thread = record { threads = omega (arith, length-replaced c.threads i thread); known = omega arith; entries = omega arith }

module _ (P : Protocol) (c : Configuration) where
  abbrev Few : Configuration → Type 0
  Few d = AddsFew c d

  acts_few : (thread : Thread) (action : ℕ → Environment → Process → Option Configuration) → ((point : ℕ) (environment : Environment) (process : Process) → IfSome (action point environment process) Few) → IfSome (acts P thread action) Few
  acts_few (At point environment) action any = if_some-then Few (action point environment) (numbered (nodes P.main) point) (λ process is. any point environment process)
  acts_few Ended action any = tt

  acting_few : (i : ℕ) (action : ℕ → Environment → Process → Option Configuration) → ((point : ℕ) (environment : Environment) (process : Process) → IfSome (action point environment process) Few) → IfSome (acting P c i action) Few
  acting_few i action any = if_some-then Few (λ thread. acts P thread action) (numbered c.threads i) (λ thread is. acts_few thread action any)

  split_few : (i point : ℕ) (environment : Environment) (process : Process) → IfSome (after_split c i point environment process) Few
  split_few i point environment (Parallel left right) = record {
    threads = let a = length-once (replaced c.threads i (At (point + 1) environment)) (At (point_after (point + 1) left) environment) in let b = length-replaced c.threads i (At (point + 1) environment) in omega (arith, a, b);
    known = omega arith;
    entries = omega arith;
  }
  split_few i point environment other = tt

  copy_few : (point : ℕ) (environment : Environment) (process : Process) → IfSome (after_copy c point environment process) Few
  copy_few point environment (Replication copied) = record { threads = omega (arith, length-once c.threads (At (point + 1) environment)); known = omega arith; entries = omega arith }
  copy_few point environment other = tt

  make_few : (i point : ℕ) (environment : Environment) (process : Process) → IfSome (after_make c i point environment process) Few
  make_few i point environment (New word next) =
      record { threads = omega (arith, length-replaced c.threads i (At (point + 1) (environment ++ record { name = Made point; value = Leaf (MadeName point c.next) } ∷ []))); known = omega arith; entries = omega arith }
  make_few i point environment other = tt

  receipt_few : (i j : ℕ) (sent : Thread) (channel message : Value) (point : ℕ) (environment : Environment) (process : Process) → IfSome (after_receipt c i j sent channel message point environment process) Few
  receipt_few i j sent channel message point environment (Input on pattern next) =
      let got : Thread = received point environment (matched environment pattern message) in
      let a = length-replaced (replaced c.threads i sent) j got in
      let b = length-replaced c.threads i sent in
      if_some-cond Few (same_value channel (value_of environment on)) (goes_on (goes_on c i sent) j got) (record { threads = omega (arith, a, b); known = omega arith; entries = omega arith })
  receipt_few i j sent channel message point environment other = tt

  pass_few : (i j point : ℕ) (environment : Environment) (process : Process) → IfSome (after_pass P c i j point environment process) Few
  pass_few i j point environment (Output channel message next) =
      acting_few j (after_receipt c i j (At (point + 1) environment) (value_of environment channel) (value_of environment message))
      (receipt_few i j (At (point + 1) environment) (value_of environment channel) (value_of environment message))
  pass_few i j point environment other = tt

  hear_few : (i point : ℕ) (environment : Environment) (process : Process) → IfSome (after_hear c i point environment process) Few
  hear_few i point environment (Output channel message next) =
      if_some-cond Few (knows c (value_of environment channel)) (learns (goes_on c i (At (point + 1) environment)) (value_of environment message))
      (record { threads = omega (arith, length-replaced c.threads i (At (point + 1) environment)); known = omega (arith, length-once c.known (value_of environment message)); entries = omega arith })
  hear_few i point environment other = tt

  say_few : (j : ℕ) (v : Value) (point : ℕ) (environment : Environment) (process : Process) → IfSome (after_say c j v point environment process) Few
  say_few j v point environment (Input channel pattern next) =
      if_some-cond Few (knows c (value_of environment channel)) (goes_on c j (received point environment (matched environment pattern v)))
      (goes_on_few c j (received point environment (matched environment pattern v)))
  say_few j v point environment other = tt

  take_few : (i : ℕ) (label : List ℕ) (point : ℕ) (environment : Environment) (process : Process) → IfSome (after_take P c i label point environment process) Few
  take_few i label point environment (Let pattern expression next otherwise) =
      if_some-map Few (λ bindings. goes_on c i (At (point + 1) (environment ++ bindings)))
      (option_and_then (matched environment pattern) (value_at P environment expression label))
      (λ bindings is. goes_on_few c i (At (point + 1) (environment ++ bindings)))
  take_few i label point environment other = tt

  unless_few : (b : Bool) (d : Configuration) → Few d → IfSome (cond b None (Some d)) Few
  unless_few true d h = tt
  unless_few false d h = h

  fail_few : (i point : ℕ) (environment : Environment) (process : Process) → IfSome (after_fail P c i point environment process) Few
  fail_few i point environment (Let pattern expression next otherwise) =
      unless_few (list_any (λ v. is_some (matched environment pattern v)) (values_at P environment expression)) (goes_on c i (At (point_after (point + 1) next) environment))
      (goes_on_few c i (At (point_after (point + 1) next) environment))
  fail_few i point environment other = tt

  mark_few : (i point : ℕ) (environment : Environment) (process : Process) → IfSome (after_mark c i point environment process) Few
  mark_few i point environment (Event performed next) = record { threads = omega (arith, length-replaced c.threads i (At (point + 1) environment)); known = omega arith; entries = omega arith }
  mark_few i point environment other = tt

  put_few : (i point : ℕ) (environment : Environment) (process : Process) → IfSome (after_put c i point environment process) Few
  put_few i point environment (Insert table arguments next) = record { threads = omega (arith, length-replaced c.threads i (At (point + 1) environment)); known = omega arith; entries = omega (arith, length-once c.entries (record { table = table; arguments = values_of environment arguments })) }
  put_few i point environment other = tt

  fetch_few : (i e point : ℕ) (environment : Environment) (process : Process) → IfSome (after_fetch c i e point environment process) Few
  fetch_few i e point environment (Get table patterns condition next otherwise) =
      if_some-map Few (λ bindings. goes_on c i (At (point + 1) (environment ++ bindings)))
      (option_and_then (matched_entry environment table patterns condition) (numbered c.entries e))
      (λ bindings is. goes_on_few c i (At (point + 1) (environment ++ bindings)))
  fetch_few i e point environment other = tt

  miss_few : (i point : ℕ) (environment : Environment) (process : Process) → IfSome (after_miss c i point environment process) Few
  miss_few i point environment (Get table patterns condition next otherwise) =
      unless_few (list_any (λ held. is_some (matched_entry environment table patterns condition held)) c.entries) (goes_on c i (At (point_after (point + 1) next) environment))
      (goes_on_few c i (At (point_after (point + 1) next) environment))
  miss_few i point environment other = tt

  build_few : (b : Bool) (f : ℕ) (o : Option (List Value)) → IfSome (cond b (option_map (λ vs. learns c (built f vs)) o) None) Few
  build_few true f o = if_some-map Few (λ vs. learns c (built f vs)) o (λ vs is. learns_few c (built f vs))
  build_few false f o = tt

  step_few : (step : Step) → IfSome (after_step P c step) Few
  step_few (Build f ks) = build_few (can_build P f (length ks)) f (known_values c ks)
  step_few (Reduce d r ks) = if_some-then Few (λ rule. option_map (learns c) (option_and_then (rule_value rule) (known_values c ks))) (numbered (rules_of P d) r)
      (λ rule is. if_some-map Few (learns c) (option_and_then (rule_value rule) (known_values c ks)) (λ v found. learns_few c v))
  step_few (Part k i) = if_some-map Few (learns c) (option_and_then (part_of P i) (numbered c.known k)) (λ v found. learns_few c v)
  step_few Fresh = record { threads = omega arith; known = omega (arith, length-once c.known (Leaf (AttackerName c.next))); entries = omega arith }
  step_few (Split i) = acting_few i (after_split c i) (split_few i)
  step_few (Copy i) = acting_few i (after_copy c) copy_few
  step_few (Make i) = acting_few i (after_make c i) (make_few i)
  step_few (Pass i j) = acting_few i (after_pass P c i j) (pass_few i j)
  step_few (Hear i) = acting_few i (after_hear c i) (hear_few i)
  step_few (Say j k) = if_some-then Few (λ v. acting P c j (after_say c j v)) (numbered c.known k) (λ v is. acting_few j (after_say c j v) (say_few j v))
  step_few (Take i label) = acting_few i (after_take P c i label) (take_few i label)
  step_few (Fail i) = acting_few i (after_fail P c i) (fail_few i)
  step_few (Mark i) = acting_few i (after_mark c i) (mark_few i)
  step_few Next = if_some-cond Few (nat_lt c.phase (greatest_phase P.main)) (raised P c) (record { threads = omega (arith, length-map c.threads (enters P (c.phase + 1))); known = omega arith; entries = omega arith })
  step_few (Put i) = acting_few i (after_put c i) (put_few i)
  step_few (Fetch i e) = acting_few i (after_fetch c i e) (fetch_few i e)
  step_few (Miss i) = acting_few i (after_miss c i) (miss_few i)

  pub adds_few : (d : Configuration) (step : Step) → after_step P c step ≡ Some d → AddsFew c d
  adds_few d step h = if_some-is Few (after_step P c step) d (step_few step) h

-- at the start no more is known than free names
few_one : {A : Type 0} (o : Option A) (rest : List A) (n : ℕ) → length rest ≤ n → length (cons_option o rest) ≤ suc n
few_one None rest n h = omega (arith, h)
few_one (Some x) rest n h = omega (arith, h)

filter_few : {A B : Type 0} (f : A → Option B) (xs : List A) → length (filter_map f xs) ≤ length xs
filter_few f [] = omega arith
filter_few f (x ∷ xs) = few_one (f x) (filter_map f xs) (length xs) (filter_few f xs)

pub start_few : (P : Protocol) → length (start P).known ≤ length P.frees
start_few P = let few = filter_few public_name (enumerate_from 1 P.frees) in omega (arith, few, length-enumerate_from 1 P.frees)
