-- Each made name that stands anywhere in a run was made at its point, with its number.
use Rattle.std.proofs.Common.{◌≡◌, ℕ, ◌+◌, Bool, true, false, not, ◌||◌, nat_eq, Some, None, List, [], ◌∷◌, ◌++◌, refl, ap, sym, subst, inl, inr}
use Rattle.std.specs.Prelude.{option_and_then, unwrap_or, cond, filter_map}
use Rattle.std.specs.Option.{option_map_or}
use Rattle.std.specs.List.{AllByRecursion, list_any, enumerate_from, cons_option}
use Rattle.std.proofs.lemmas.Bool.{eq-eqb, eqb-true}
use Rattle.spec_trees.specs.Tree.{Leaf}
use Rattle.spec_trees.proofs.Equality.{and_true}
use Rattle.spec_trees.proofs.Occurrence.{or_true}
use Rattle.spec_calculus.specs.Syntax.{Made, Process, New, Declared, Protocol}
use Rattle.spec_calculus.specs.Points.{numbered}
use Rattle.spec_calculus.specs.Values.{Atom, FreeName, MadeName, AttackerName, Binding, Environment}
use Rattle.spec_calculus.specs.Runs.{At, Configuration, Step, Build, Reduce, Part, Fresh, Split, Copy, Make, Pass, Hear, Say, Take, Fail, Mark, Next, Put, Fetch, Miss, goes_on, after_make, public_name, start, acting, after_step, after_steps, run}
use Rattle.spec_calculus.specs.Runs as runs
use Rattle.spec_calculus.specs.Standing.{Lacks, EnvironmentLacks, ThreadLacks, IsLacking}
use Rattle.spec_calculus.proofs.Items.{of_some, of_then, each-append, each-replaced, each-numbered, if_some-is}
use Rattle.spec_calculus.proofs.Lacking.{MakesNone, step_lacks}
use Rattle.spec_calculus.proofs.Freshness.{none_passes, lacking_weaker}
use Rattle.spec_clauses.specs.Inclusion.{here, there, Has}
use Rattle.spec_abstraction.specs.Trace.{MadeAt, Trace, start_trace, past_of, message_at, point_of, standing_at, after_trace, trace_from, trace_of}
pub use Rattle.spec_abstraction.specs.OneToOne.{is_entry, is_foreign}
use Rattle.spec_abstraction.proofs.Acting.{acted, hears_made}

-- with one entry more no name becomes foreign
pub more_entries : (e : MadeAt) (made : List MadeAt) (x : Atom) → is_foreign made x ≡ false → is_foreign (e ∷ made) x ≡ false
more_entries e made (FreeName n) h = refl
more_entries e made (MadeName point number) h = go (is_entry point number e) (list_any (is_entry point number) made) h where
  go : (a b : Bool) → not b ≡ false → not (a || b) ≡ false
  go true b k = refl
  go false b k = k
more_entries e made (AttackerName n) h = refl

module _ (P : Protocol) where
  -- a step that makes no name of a restriction
  other_entries : (c d : Configuration) (t : Trace) (step : Step) → after_step P c step ≡ Some d → MakesNone (is_foreign t.made) c step → (after_trace P c t step).made ≡ t.made → IsLacking (is_foreign t.made) c → IsLacking (is_foreign (after_trace P c t step).made) d
  other_entries c d t step e makes same h =
      subst (λ made. IsLacking (is_foreign made) d) (sym same)
      (if_some-is (IsLacking (is_foreign t.made)) (after_step P c step) d
      (step_lacks (is_foreign t.made) (λ x. false) (λ n k. refl) refl P (none_passes P.main) c step makes h) e)

  -- the name that a restriction makes has its entry
  make_entries : (c d : Configuration) (t : Trace) (n point : ℕ) (environment : Environment) (process : Process) → numbered c.threads n ≡ Some (At point environment) → after_make c n point environment process ≡ Some d → IsLacking (is_foreign t.made) c → IsLacking (is_foreign (after_trace P c t (Make n)).made) d
  make_entries c d t n point environment (New word next) thread e h =
      let entry : MadeAt = record { number = c.next; point = unwrap_or (standing_at c n) 0; past = past_of t n } in
      let made = entry ∷ t.made in
      let q = is_foreign made in
      let at : entry.point ≡ point = ap (λ o. unwrap_or (option_and_then point_of o) 0) thread in
      let found : q (MadeName point c.next) ≡ false = rw (eq-eqb entry.point point at) (rw (eq-eqb c.next c.next refl) refl) in
      let before = lacking_weaker (is_foreign t.made) q (more_entries entry t.made) c h in
      let binding : Binding = record { name = Made point; value = Leaf (MadeName point c.next) } in
      let old = if_some-is (ThreadLacks q) (numbered c.threads n) (At point environment) (each-numbered (ThreadLacks q) c.threads n before.threads) thread in
      let new : EnvironmentLacks q (environment ++ binding ∷ []) = each-append (λ b. Lacks q b.value) environment (binding ∷ []) old (found, tt) in
      let after : IsLacking q (runs.names (goes_on c n (At (point + 1) (environment ++ binding ∷ [])))) = record {
        known = before.known;
        threads = each-replaced (ThreadLacks q) c.threads n (At (point + 1) (environment ++ binding ∷ [])) new before.threads;
        events = before.events;
        entries = before.entries;
      } in
      subst (IsLacking q) (of_some (runs.names (goes_on c n (At (point + 1) (environment ++ binding ∷ [])))) d e) after
  make_entries c d t n point environment _ thread e h = cc

  pub step_entries : (c d : Configuration) (t : Trace) (step : Step) → after_step P c step ≡ Some d → IsLacking (is_foreign t.made) c → IsLacking (is_foreign (after_trace P c t step).made) d
  step_entries c d t (Build f ks) e h = other_entries c d t (Build f ks) e tt refl h
  step_entries c d t (Reduce n r ks) e h = other_entries c d t (Reduce n r ks) e tt refl h
  step_entries c d t (Part k n) e h = other_entries c d t (Part k n) e tt refl h
  step_entries c d t Fresh e h = other_entries c d t Fresh e refl refl h
  step_entries c d t (Split n) e h = other_entries c d t (Split n) e tt refl h
  step_entries c d t (Copy n) e h = other_entries c d t (Copy n) e tt refl h
  step_entries c d t (Make n) e h =
      let r = acted P c n (after_make c n) d e in
      make_entries c d t n r.point r.environment r.process r.thread r.is h
  step_entries c d t (Pass n m) e h = other_entries c d t (Pass n m) e tt (hears_made t m (acting P c n message_at)) h
  step_entries c d t (Hear n) e h = other_entries c d t (Hear n) e tt refl h
  step_entries c d t (Say m k) e h = other_entries c d t (Say m k) e tt (hears_made t m (numbered c.known k)) h
  step_entries c d t (Take n label) e h = other_entries c d t (Take n label) e tt refl h
  step_entries c d t (Fail n) e h = other_entries c d t (Fail n) e tt refl h
  step_entries c d t (Mark n) e h = other_entries c d t (Mark n) e tt refl h
  step_entries c d t Next e h = other_entries c d t Next e tt refl h
  step_entries c d t (Put n) e h = other_entries c d t (Put n) e tt refl h
  step_entries c d t (Fetch n k) e h = other_entries c d t (Fetch n k) e tt refl h
  step_entries c d t (Miss n) e h = other_entries c d t (Miss n) e tt refl h

  steps_entries : (steps : List Step) (c d : Configuration) (t : Trace) → after_steps P c steps ≡ Some d → IsLacking (is_foreign t.made) c → IsLacking (is_foreign (trace_from P c t steps).made) d
  steps_entries [] c d t e h = let same : c ≡ d = cc in subst (IsLacking (is_foreign t.made)) same h
  steps_entries (step ∷ steps) c d t e h =
      let (x, made, rest) = of_then (λ x. after_steps P x steps) (after_step P c step) d e in
      let onward : trace_from P c t (step ∷ steps) ≡ trace_from P x (after_trace P c t step) steps = ap (λ o. option_map_or (λ y. trace_from P y (after_trace P c t step) steps) o t) made in
      subst (λ u. IsLacking (is_foreign u.made) d) (sym onward) (steps_entries steps x d (after_trace P c t step) rest (step_entries c x t step made h))

  -- at the start none stands anywhere
  pub start_lacks : IsLacking (is_foreign []) (start P)
  start_lacks = record { known = public_known 1 P.frees; threads = (tt, tt); events = tt; entries = tt }
    where
      public_known : (k : ℕ) (frees : List Declared) → AllByRecursion (Lacks (is_foreign [])) (filter_map public_name (enumerate_from k frees))
      public_known k [] = tt
      public_known k (d ∷ frees) = go d.public (public_known (k + 1) frees)
        where
          go : (public : Bool) → AllByRecursion (Lacks (is_foreign [])) (filter_map public_name (enumerate_from (k + 1) frees)) → AllByRecursion (Lacks (is_foreign [])) (cons_option (cond public (Some (Leaf (FreeName k))) None) (filter_map public_name (enumerate_from (k + 1) frees)))
          go true others = (refl, others)
          go false others = others

  -- In a run no name stands anywhere without an entry.
  pub runs_have_entries : (steps : List Step) (c : Configuration) → run P steps ≡ Some c → IsLacking (is_foreign (trace_of P steps).made) c
  runs_have_entries steps c e = steps_entries steps (start P) c start_trace e start_lacks

-- the entry of a name that isn't foreign
pub found_entry : (point number : ℕ) (made : List MadeAt) → is_foreign made (MadeName point number) ≡ false → (e : MadeAt) × Has made e × (e.point ≡ point) × (e.number ≡ number)
found_entry point number [] h = cc
found_entry point number (e ∷ made) h =
    elim (or_true (is_entry point number e) (list_any (is_entry point number) made) (of_not (is_entry point number e || list_any (is_entry point number) made) h)) as (λ _. (f : MadeAt) × Has (e ∷ made) f × (f.point ≡ point) × (f.number ≡ number)) [
      | inl k ↦ (let both = and_true (nat_eq e.point point) (nat_eq e.number number) k in (e, (made, here), eqb-true e.point point both.0, eqb-true e.number number both.1))
      | inr k ↦ (let (f, found, at, is) = found_entry point number made (ap not k) in (f, (e ∷ found.0, there found.1), at, is))
    ]
  where
    of_not : (b : Bool) → not b ≡ false → b ≡ true
    of_not true k = refl
    of_not false k = cc
