-- The naming of a run's names gives each its term: a name is made of older names alone.
use Rattle.std.proofs.Common.{◌≡◌, ◌∙◌, ℕ, zero, suc, ◌<◌, ◌≤◌, Bool, false, nat_eq, Option, Some, None, List, [], ◌∷◌, ◌++◌, map, refl, ap, sym, subst, IfSome, arith}
use Rattle.std.specs.Prelude.{unwrap_or, slice_set}
use Rattle.std.specs.Option.{option_map_or}
use Rattle.std.specs.List.{AllByRecursion}
use Rattle.std.proofs.lemmas.Bool.{eq-eqb}
use Rattle.std.proofs.lemmas.Bool.Decides.{nat_tests}
use Rattle.spec_trees.specs.Tree.{Tree, Trees, Leaf, Node, none, more, some_leaf, some_leaves}
use Rattle.spec_trees.specs.Leaves.{leaves, row_leaves}
use Rattle.spec_trees.proofs.Occurrence.{or_false, some_leaf-never}
use Rattle.spec_calculus.specs.Syntax.{Process, Output, Protocol}
use Rattle.spec_calculus.specs.Points.{numbered, replaced}
use Rattle.spec_calculus.specs.Values.{Atom, FreeName, MadeName, AttackerName, Value, Environment, value_of}
use Rattle.spec_calculus.specs.Tables.{Held}
use Rattle.spec_calculus.specs.Runs.{At, Configuration, Step, Build, Reduce, Part, Fresh, Split, Copy, Make, Pass, Hear, Say, Take, Fail, Mark, Next, Put, Fetch, Miss, start, acting, after_step, after_steps, run}
use Rattle.spec_calculus.specs.Standing.{Lacks, EnvironmentLacks, ThreadLacks, EntryLacks, is_numbered_from, NextIsNew}
use Rattle.spec_calculus.proofs.Items.{of_then, if_some-is}
use Rattle.spec_calculus.proofs.Growth.{numbers_are_taken}
use Rattle.spec_calculus.proofs.Leaves.{some_leaf-weaker}
use Rattle.spec_calculus.proofs.Freshness.{step_keeps_new, next_is_new}
use Rattle.spec_calculus.proofs.Lacking.{value_lacks}
use Rattle.spec_clauses.proofs.Lists.{all_append, all_weaker, map_same}
use Rattle.spec_translation.specs.Conversion.{name_term}
use Rattle.spec_translation.proofs.Conversions.{converted-same}
use Rattle.spec_abstraction.specs.Trace.{Past, nothing_past, MadeAt, Trace, start_trace, past_of, message_at, gets, hears, entry_values, after_trace, trace_from, trace_of}
use Rattle.spec_abstraction.specs.Naming.{atom_term, abstracted, made_term, Names, naming}
use Rattle.spec_abstraction.proofs.Conclusions.{all_numbered}
use Rattle.spec_abstraction.proofs.Acting.{acted}

-- no name in the past has this number or a later one
abbrev pub PastLacks : ℕ → Past → Type 0
PastLacks n past = AllByRecursion (Lacks (is_numbered_from n)) past.messages

-- each name has a number below n, and was made of names with lesser numbers, the newest first
abbrev pub AreOlder : ℕ → List MadeAt → Type 0
AreOlder n [] = Unit {0}
AreOlder n (e ∷ es) = (e.number < n) × PastLacks e.number e.past × AreOlder e.number es

-- leaves that pass no test
mutual
  pub leaves_lack : {L S : Type 0} (p : L → Bool) (t : Tree L S) → some_leaf p t ≡ false → AllByRecursion (λ x. p x ≡ false) (leaves t)
  leaves_lack p (Leaf x) h = (h, tt)
  leaves_lack p (Node f ts) h = row_leaves_lack p ts h

  pub row_leaves_lack : {L S : Type 0} (p : L → Bool) (ts : Trees L S) → some_leaves p ts ≡ false → AllByRecursion (λ x. p x ≡ false) (row_leaves ts)
  row_leaves_lack p none h = tt
  row_leaves_lack p (more t ts) h =
      let both = or_false (some_leaf p t) (some_leaves p ts) h in
      all_append (λ x. p x ≡ false) (leaves t) (row_leaves ts) (leaves_lack p t both.0) (row_leaves_lack p ts both.1)

-- what follows of two things that hold of all items
pub all_both : {X : Type 0} (A B C : X → Type 0) → ((x : X) → A x → B x → C x) → (xs : List X) → AllByRecursion A xs → AllByRecursion B xs → AllByRecursion C xs
all_both A B C f [] a b = tt
all_both A B C f (x ∷ xs) a b = (f x a.0 b.0, all_both A B C f xs a.1 b.1)

-- a later bound
later_lacks : (n m : ℕ) → n ≤ m → (v : Value) → Lacks (is_numbered_from n) v → Lacks (is_numbered_from m) v
later_lacks n m le v h = go v h
  where
    atom : (x : Atom) → is_numbered_from n x ≡ false → is_numbered_from m x ≡ false
    atom (FreeName k) e = refl
    atom (MadeName p k) e = grind (arith, nat_tests)
    atom (AttackerName k) e = grind (arith, nat_tests)

    go : (v : Value) → Lacks (is_numbered_from n) v → Lacks (is_numbered_from m) v
    go v h = some_leaf-weaker (is_numbered_from n) (is_numbered_from m) atom v h

later_past : (n m : ℕ) → n ≤ m → (past : Past) → PastLacks n past → PastLacks m past
later_past n m le past h = all_weaker (Lacks (is_numbered_from n)) (Lacks (is_numbered_from m)) (later_lacks n m le) past.messages h

later_older : (n m : ℕ) → n ≤ m → (es : List MadeAt) → AreOlder n es → AreOlder m es
later_older n m le [] h = tt
later_older n m le (e ∷ es) h = (omega (arith, le, h.0), h.1, h.2)

-- all of them
all_older : (n : ℕ) (es : List MadeAt) → AreOlder n es → AllByRecursion (λ e. (e.number < n) × PastLacks n e.past) es
all_older n [] h = tt
all_older n (e ∷ es) h =
    let le : e.number ≤ n = omega (arith, h.0) in
    ((h.0, later_past e.number n le e.past h.1), all_older n es (later_older e.number n le es h.2))

-- Pasts are of names that are there, and made names of older ones.
pub record IsOlder (c : Configuration) (t : Trace) : Type 0 where
  pub pasts : AllByRecursion (PastLacks c.next) t.pasts
  pub made : AreOlder c.next t.made

module _ (P : Protocol) where
  past_lacks : (c : Configuration) (t : Trace) (n : ℕ) → IsOlder c t → PastLacks c.next (past_of t n)
  past_lacks c t n h = go (numbered t.pasts n) refl
    where
      go : (o : Option Past) → numbered t.pasts n ≡ o → PastLacks c.next (unwrap_or o nothing_past)
      go None e = tt
      go (Some past) e = all_numbered (PastLacks c.next) t.pasts n past e h.pasts

  all_set : {X : Type 0} (Q : X → Type 0) (xs : List X) (k : ℕ) (x : X) → Q x → AllByRecursion Q xs → AllByRecursion Q (slice_set xs k x)
  all_set Q [] k x q a = tt
  all_set Q (y ∷ ys) zero x q a = (q, a.1)
  all_set Q (y ∷ ys) (suc k) x q a = (a.0, all_set Q ys k x q a.1)

  all_replaced : {X : Type 0} (Q : X → Type 0) (xs : List X) (n : ℕ) (x : X) → Q x → AllByRecursion Q xs → AllByRecursion Q (replaced xs n x)
  all_replaced Q xs zero x q a = a
  all_replaced Q xs (suc k) x q a = all_set Q xs k x q a

  -- what is received or taken is of names that are there
  gets_older : (c : Configuration) (t : Trace) (n : ℕ) (vs : List Value) → AllByRecursion (Lacks (is_numbered_from c.next)) vs → IsOlder c t → IsOlder c (gets t n vs)
  gets_older c t n vs h a = record {
    pasts = all_replaced (PastLacks c.next) t.pasts n (record (past_of t n) { messages = (past_of t n).messages ++ vs })
        (all_append (Lacks (is_numbered_from c.next)) (past_of t n).messages vs (past_lacks c t n a) h) a.pasts;
    made = a.made;
  }

  hears_older : (c : Configuration) (t : Trace) (n : ℕ) (o : Option Value) → IfSome o (Lacks (is_numbered_from c.next)) → IsOlder c t → IsOlder c (hears t n o)
  hears_older c t n None h a = a
  hears_older c t n (Some v) h a = gets_older c t n (v ∷ []) (h, tt) a

  -- a message of a thread is of names that are there
  message_lacks : (c : Configuration) (n : ℕ) → NextIsNew c → IfSome (acting P c n message_at) (Lacks (is_numbered_from c.next))
  message_lacks c n new = go (acting P c n message_at) refl
    where
      of_process : (point : ℕ) (environment : Environment) (process : Process) (v : Value) → EnvironmentLacks (is_numbered_from c.next) environment → message_at point environment process ≡ Some v → Lacks (is_numbered_from c.next) v
      of_process point environment (Output channel message next) v lacks e =
          let same : value_of environment message ≡ v = cc in
          subst (Lacks (is_numbered_from c.next)) same (value_lacks (is_numbered_from c.next) (λ x. false) (λ k h. refl) refl environment lacks message (some_leaf-never (λ x. false) (λ x. refl) message))
      of_process point environment _ v lacks e = cc

      go : (o : Option Value) → acting P c n message_at ≡ o → IfSome o (Lacks (is_numbered_from c.next))
      go None e = tt
      go (Some v) e =
          let r = acted P c n message_at v e in
          of_process r.point r.environment r.process v (all_numbered (ThreadLacks (is_numbered_from c.next)) c.threads n (At r.point r.environment) r.thread new.threads) r.is

  known_lacks : (c : Configuration) (k : ℕ) → NextIsNew c → IfSome (numbered c.known k) (Lacks (is_numbered_from c.next))
  known_lacks c k new = go (numbered c.known k) refl
    where
      go : (o : Option Value) → numbered c.known k ≡ o → IfSome o (Lacks (is_numbered_from c.next))
      go None e = tt
      go (Some v) e = all_numbered (Lacks (is_numbered_from c.next)) c.known k v e new.known

  entry_lacks : (c : Configuration) (k : ℕ) → NextIsNew c → AllByRecursion (Lacks (is_numbered_from c.next)) (entry_values c k)
  entry_lacks c k new = go (numbered c.entries k) refl
    where
      go : (o : Option Held) → numbered c.entries k ≡ o → AllByRecursion (Lacks (is_numbered_from c.next)) (option_map_or (λ held. held.arguments) o [])
      go None e = tt
      go (Some held) e = all_numbered (EntryLacks (is_numbered_from c.next)) c.entries k held e new.entries

  -- where the next name has a later number
  grown : (c d : Configuration) (t : Trace) → c.next ≤ d.next → IsOlder c t → IsOlder d t
  grown c d t le a = record {
    pasts = all_weaker (PastLacks c.next) (PastLacks d.next) (later_past c.next d.next le) t.pasts a.pasts;
    made = later_older c.next d.next le t.made a.made;
  }

  -- the trace after a step, before the number of the next name is looked at
  trace_older : (c : Configuration) (t : Trace) (step : Step) → NextIsNew c → IsOlder c t → ((n : ℕ) → step ≡ Make n → ⊥) → IsOlder c (after_trace P c t step)
  trace_older c t (Build f ks) new a other = a
  trace_older c t (Reduce d r ks) new a other = a
  trace_older c t (Part k n) new a other = a
  trace_older c t Fresh new a other = a
  trace_older c t (Split n) new a other = record { pasts = all_append (PastLacks c.next) t.pasts (past_of t n ∷ []) a.pasts (past_lacks c t n a, tt); made = a.made }
  trace_older c t (Copy n) new a other = record { pasts = all_append (PastLacks c.next) t.pasts (record (past_of t n) { sessions = (past_of t n).sessions ++ t.copies ∷ [] } ∷ []) a.pasts (past_lacks c t n a, tt); made = a.made }
  trace_older c t (Make n) new a other = absurd (other n refl)
  trace_older c t (Pass n m) new a other = hears_older c t m (acting P c n message_at) (message_lacks c n new) a
  trace_older c t (Hear n) new a other = a
  trace_older c t (Say m k) new a other = hears_older c t m (numbered c.known k) (known_lacks c k new) a
  trace_older c t (Take n label) new a other = a
  trace_older c t (Fail n) new a other = a
  trace_older c t (Mark n) new a other = a
  trace_older c t Next new a other = a
  trace_older c t (Put n) new a other = a
  trace_older c t (Fetch n k) new a other = gets_older c t n (entry_values c k) (entry_lacks c k new) a
  trace_older c t (Miss n) new a other = a

  step_older_other : (c d : Configuration) (t : Trace) (step : Step) → after_step P c step ≡ Some d → NextIsNew c → IsOlder c t → ((n : ℕ) → step ≡ Make n → ⊥) → IsOlder d (after_trace P c t step)
  step_older_other c d t step e new a other =
      let taken = numbers_are_taken P c d step e in
      let le : c.next ≤ d.next = omega (arith, taken) in
      grown c d (after_trace P c t step) le (trace_older c t step new a other)

  step_older : (c d : Configuration) (t : Trace) (step : Step) → after_step P c step ≡ Some d → NextIsNew c → IsOlder c t → IsOlder d (after_trace P c t step)
  step_older c d t (Make n) e new a =
      let taken = numbers_are_taken P c d (Make n) e in
      let le : c.next ≤ d.next = omega (arith, taken) in
      let lt : c.next < d.next = omega (arith, taken) in
      let past = past_lacks c t n a in
      record {
        pasts = all_weaker (PastLacks c.next) (PastLacks d.next) (later_past c.next d.next le) t.pasts a.pasts;
        made = (lt, past, a.made);
      }
  step_older c d t (Build f ks) e new a = step_older_other c d t (Build f ks) e new a (λ n h. cc)
  step_older c d t (Reduce n r ks) e new a = step_older_other c d t (Reduce n r ks) e new a (λ n h. cc)
  step_older c d t (Part k n) e new a = step_older_other c d t (Part k n) e new a (λ n h. cc)
  step_older c d t Fresh e new a = step_older_other c d t Fresh e new a (λ n h. cc)
  step_older c d t (Split n) e new a = step_older_other c d t (Split n) e new a (λ n h. cc)
  step_older c d t (Copy n) e new a = step_older_other c d t (Copy n) e new a (λ n h. cc)
  step_older c d t (Pass n m) e new a = step_older_other c d t (Pass n m) e new a (λ n h. cc)
  step_older c d t (Hear n) e new a = step_older_other c d t (Hear n) e new a (λ n h. cc)
  step_older c d t (Say m k) e new a = step_older_other c d t (Say m k) e new a (λ n h. cc)
  step_older c d t (Take n label) e new a = step_older_other c d t (Take n label) e new a (λ n h. cc)
  step_older c d t (Fail n) e new a = step_older_other c d t (Fail n) e new a (λ n h. cc)
  step_older c d t (Mark n) e new a = step_older_other c d t (Mark n) e new a (λ n h. cc)
  step_older c d t Next e new a = step_older_other c d t Next e new a (λ n h. cc)
  step_older c d t (Put n) e new a = step_older_other c d t (Put n) e new a (λ n h. cc)
  step_older c d t (Fetch n k) e new a = step_older_other c d t (Fetch n k) e new a (λ n h. cc)
  step_older c d t (Miss n) e new a = step_older_other c d t (Miss n) e new a (λ n h. cc)

  steps_older : (steps : List Step) (c d : Configuration) (t : Trace) → after_steps P c steps ≡ Some d → NextIsNew c → IsOlder c t → IsOlder d (trace_from P c t steps)
  steps_older [] c d t e new a = let same : c ≡ d = cc in subst (λ x. IsOlder x t) same a
  steps_older (step ∷ steps) c d t e new a =
      let (x, made, rest) = of_then (λ x. after_steps P x steps) (after_step P c step) d e in
      let onward : trace_from P c t (step ∷ steps) ≡ trace_from P x (after_trace P c t step) steps = ap (λ o. option_map_or (λ y. trace_from P y (after_trace P c t step) steps) o t) made in
      let newer = if_some-is NextIsNew (after_step P c step) x (step_keeps_new P c step new) made in
      subst (λ u. IsOlder d u) (sym onward) (steps_older steps x d (after_trace P c t step) rest newer (step_older c x t step made new a))

  -- atoms of older names have the terms that they had
  older_atom : (e : MadeAt) (es : List MadeAt) (x : Atom) → is_numbered_from e.number x ≡ false → atom_term (naming P es) x ≡ atom_term (naming P (e ∷ es)) x
  older_atom e es (FreeName n) h = refl
  older_atom e es (AttackerName n) h = refl
  older_atom e es (MadeName p n) h = let other : nat_eq e.number n ≡ false = grind (arith, nat_tests) in rw other refl

  older_value : (e : MadeAt) (es : List MadeAt) (v : Value) → Lacks (is_numbered_from e.number) v → abstracted P (naming P es) v ≡ abstracted P (naming P (e ∷ es)) v
  older_value e es v h =
      converted-same P (atom_term (naming P es)) (atom_term (naming P (e ∷ es))) v
      (all_weaker (λ x. is_numbered_from e.number x ≡ false) (λ x. atom_term (naming P es) x ≡ atom_term (naming P (e ∷ es)) x) (older_atom e es) (leaves v) (leaves_lack (is_numbered_from e.number) v h))

  older_term : (e : MadeAt) (es : List MadeAt) (f : MadeAt) → PastLacks e.number f.past → made_term P (naming P es) f ≡ made_term P (naming P (e ∷ es)) f
  older_term e es f h =
      let messages = map_same (abstracted P (naming P es)) (abstracted P (naming P (e ∷ es))) f.past.messages
      (all_weaker (Lacks (is_numbered_from e.number)) (λ v. abstracted P (naming P es) v ≡ abstracted P (naming P (e ∷ es)) v) (older_value e es) f.past.messages h) in
      ap (λ ms. name_term f.point ms (map Leaf f.past.sessions)) messages

  -- so each name has its term
  pub older_named : (es : List MadeAt) (n : ℕ) → AreOlder n es → Names P (naming P es) es
  older_named [] n h = tt
  older_named (e ∷ es) n h =
      let first : naming P (e ∷ es) e.point e.number ≡ made_term P (naming P es) e = rw (eq-eqb e.number e.number refl) refl in
      let others = all_both (λ f. naming P es f.point f.number ≡ made_term P (naming P es) f) (λ f. (f.number < e.number) × PastLacks e.number f.past) (λ f. naming P (e ∷ es) f.point f.number ≡ made_term P (naming P (e ∷ es)) f)
      (λ f a b. let lt = b.0 in let other : nat_eq e.number f.number ≡ false = grind (arith, nat_tests) in rw other (a ∙ older_term e es f b.1))
      es (older_named es e.number h.2) (all_older e.number es h.2) in
      (first ∙ older_term e es e h.1, others)

  -- The naming of a run's names gives each its term.
  pub runs_are_named : (steps : List Step) (c : Configuration) → run P steps ≡ Some c → Names P (naming P (trace_of P steps).made) (trace_of P steps).made
  runs_are_named steps c e =
      let older = steps_older steps (start P) c start_trace e (next_is_new P [] (start P) refl) (record { pasts = (tt, tt); made = tt }) in
      older_named (trace_of P steps).made c.next older.made
