-- Each name that is made is new.
use Rattle.std.proofs.Common.{◌≡◌, ℕ, ◌+◌, ◌≤◌, ◌<◌, Bool, true, false, nat_le, List, [], ◌∷◌, None, Some, IfSome, cond, filter_map, refl, arith}
use Rattle.std.proofs.lemmas.Bool.Decides.{nat_tests}
use Rattle.std.specs.List.{AllByRecursion, cons_option, enumerate_from}
use Rattle.spec_trees.specs.Tree.{Leaf, some_leaf}
use Rattle.spec_trees.proofs.Occurrence.{some_leaf-never}
use Rattle.spec_calculus.specs.Syntax.{Term, Hole, Bind, Equal, Expression, Process, Nil, Output, Input, Parallel, Replication, New, Let, Event, Phase, Insert, Get, Declared, Protocol}
use Rattle.spec_calculus.specs.Values.{Atom, FreeName, MadeName, AttackerName, Value}
use Rattle.spec_calculus.specs.Runs.{Thread, At, Ended, Configuration, Step, Fresh, Make, public_name, start, after_step, run}
use Rattle.spec_calculus.specs.Tables.{row_pattern, sides}
use Rattle.spec_calculus.specs.Absence.{some_term, some_hole, some_pattern, some_expression, some_name}
use Rattle.spec_calculus.specs.Standing.{Lacks, ThreadLacks, EventLacks, EntryLacks, IsLacking, is_numbered_from, NextIsNew, names_made, phases_begun}
use Rattle.spec_calculus.proofs.Items.{each-weaker, if_some-is, if_some-of}
use Rattle.spec_calculus.proofs.Leaves.{some_leaf-weaker}
use Rattle.spec_calculus.proofs.Steps.{steps_keep}
use Rattle.spec_calculus.proofs.Growth.{Advances, step_advances}
use Rattle.spec_calculus.proofs.Lacking.{MakesNone, step_lacks}

-- a weaker test
module _ (p q : Atom → Bool) (weaker : (x : Atom) → p x ≡ false → q x ≡ false) where
  value_weaker : (v : Value) → Lacks p v → Lacks q v
  value_weaker v h = some_leaf-weaker p q weaker v h

  thread_weaker : (thread : Thread) → ThreadLacks p thread → ThreadLacks q thread
  thread_weaker (At point environment) h = each-weaker (λ b. Lacks p b.value) (λ b. Lacks q b.value) (λ b k. value_weaker b.value k) environment h
  thread_weaker Ended h = tt

  pub lacking_weaker : (c : Configuration) → IsLacking p c → IsLacking q c
  lacking_weaker c h = record {
    known = each-weaker (Lacks p) (Lacks q) value_weaker c.known h.known;
    threads = each-weaker (ThreadLacks p) (ThreadLacks q) thread_weaker c.threads h.threads;
    events = each-weaker (EventLacks p) (EventLacks q) (λ e k. each-weaker (Lacks p) (Lacks q) value_weaker e.arguments k) c.events h.events;
    entries = each-weaker (EntryLacks p) (EntryLacks q) (λ held k. each-weaker (Lacks p) (Lacks q) value_weaker held.arguments k) c.entries h.entries;
  }

later_number : (n m number : ℕ) → n ≤ m → nat_le n number ≡ false → nat_le m number ≡ false
later_number n m number le h = grind (arith, nat_tests)

later : (n m : ℕ) → n ≤ m → (x : Atom) → is_numbered_from n x ≡ false → is_numbered_from m x ≡ false
later n m le (FreeName number) h = refl
later n m le (MadeName point number) h = later_number n m number le h
later n m le (AttackerName number) h = later_number n m number le h

below : (n m : ℕ) → n < m → nat_le m n ≡ false
below n m h = grind (arith, nat_tests)

-- what a process holds passes no test that nothing passes
none_among : (terms : List Term) → some_term (λ x. false) terms ≡ false
none_among [] = refl
none_among (t ∷ ts) = let a = some_leaf-never (λ x. false) (λ x. refl) t in let b = none_among ts in cc

none_in_hole : (hole : Hole) → some_hole (λ x. false) hole ≡ false
none_in_hole (Bind i) = refl
none_in_hole (Equal term) = some_leaf-never (λ x. false) (λ x. refl) term

none_in_expression : (e : Expression) → some_expression (λ x. false) e ≡ false
none_in_expression e = some_leaf-never (some_leaf (λ x. false)) (λ t. some_leaf-never (λ x. false) (λ x. refl) t) e

pub none_passes : (process : Process) → some_name (λ x. false) process ≡ false
none_passes Nil = refl
none_passes (Output channel message next) =
    let a = some_leaf-never (λ x. false) (λ x. refl) channel in
    let b = some_leaf-never (λ x. false) (λ x. refl) message in
    let c = none_passes next in cc
none_passes (Input channel pattern next) =
    let a = some_leaf-never (λ x. false) (λ x. refl) channel in
    let b = some_leaf-never (some_hole (λ x. false)) none_in_hole pattern in
    let c = none_passes next in cc
none_passes (Parallel left right) = let a = none_passes left in let b = none_passes right in cc
none_passes (Replication copied) = none_passes copied
none_passes (New word next) = none_passes next
none_passes (Let pattern expression next otherwise) =
    let a = some_leaf-never (some_hole (λ x. false)) none_in_hole pattern in
    let b = none_in_expression expression in
    let c = none_passes next in
    let d = none_passes otherwise in cc
none_passes (Event performed next) = let a = none_among performed.arguments in let b = none_passes next in cc
none_passes (Phase number next) = none_passes next
none_passes (Insert table arguments next) = let a = none_among arguments in let b = none_passes next in cc
none_passes (Get table patterns condition next otherwise) =
    let a : some_pattern (λ x. false) (row_pattern patterns) ≡ false = some_leaf-never (some_hole (λ x. false)) none_in_hole (row_pattern patterns) in
    let b = none_among (sides condition) in
    let c = none_passes next in
    let d = none_passes otherwise in cc

-- a name that the step makes has a number below that of the next name after it
makes_below : (c : Configuration) (n : ℕ) (step : Step) → n ≡ c.next + names_made step → MakesNone (is_numbered_from n) c step
makes_below c n Fresh h = below c.next n (omega arith)
makes_below c n (Make i) h = λ q. below c.next n (omega arith)
makes_below c n step h = tt

pub step_keeps_new : (P : Protocol) (c : Configuration) (step : Step) → NextIsNew c → IfSome (after_step P c step) NextIsNew
step_keeps_new P c step h = if_some-of NextIsNew (after_step P c step) (λ d is.
    let advance = if_some-is (Advances (names_made step) (phases_begun step) c) (after_step P c step) d (step_advances P c step) is in
    let next : d.next ≡ c.next + names_made step = advance.next in
    let before = lacking_weaker (is_numbered_from c.next) (is_numbered_from d.next) (later c.next d.next (omega (arith, next))) c h in
    if_some-is (IsLacking (is_numbered_from d.next)) (after_step P c step) d
    (step_lacks (is_numbered_from d.next) (λ x. false) (λ n k. refl) refl P (none_passes P.main) c step (makes_below c d.next step next) before) is)

public_are_free : (n k : ℕ) (frees : List Declared) → AllByRecursion (Lacks (is_numbered_from n)) (filter_map public_name (enumerate_from k frees))
public_are_free n k [] = tt
public_are_free n k (d ∷ frees) = go d.public (public_are_free n (k + 1) frees)
  where
    go : (public : Bool) → AllByRecursion (Lacks (is_numbered_from n)) (filter_map public_name (enumerate_from (k + 1) frees)) → AllByRecursion (Lacks (is_numbered_from n)) (cons_option (cond public (Some (Leaf (FreeName k))) None) (filter_map public_name (enumerate_from (k + 1) frees)))
    go true others = (refl, others)
    go false others = others

-- in each configuration that a run reaches the next name stands nowhere, so that no name is made twice
pub next_is_new : (P : Protocol) (steps : List Step) (c : Configuration) → run P steps ≡ Some c → NextIsNew c
next_is_new P steps c is =
    if_some-is NextIsNew (run P steps) c
    (steps_keep P NextIsNew (step_keeps_new P) steps (start P) (record { known = public_are_free 0 1 P.frees; threads = (tt, tt); events = tt; entries = tt })) is
