-- Runs are derived: what is known at the end of a run, and each event of it, where a naming gives each made name its term.
use Rattle.std.proofs.Common.{◌≡◌, ◌∙◌, ℕ, Bool, true, false, cond, Option, Some, None, List, [], ◌∷◌, ◌++◌, filter_map, refl, ap, sym, subst, append_assoc, arith}
use Rattle.std.specs.Prelude.{slice_get, take}
use Rattle.std.specs.Option.{option_map_or}
use Rattle.std.specs.List.{AllByRecursion, enumerate_from, cons_option}
use Rattle.spec_trees.specs.Tree.{Leaf}
use Rattle.spec_calculus.specs.Syntax.{Declared, Query, Protocol}
use Rattle.spec_calculus.specs.Points.{numbered}
use Rattle.spec_calculus.specs.Values.{Atom, FreeName}
use Rattle.spec_calculus.specs.Matching.{rules_of}
use Rattle.spec_calculus.specs.Runs.{Performed, Configuration, Step, Build, Reduce, Part, Fresh, Split, Copy, Make, Pass, Hear, Say, Take, Fail, Mark, Next, Put, Fetch, Miss, public_name, start, acting, after_step, after_steps, run}
use Rattle.spec_calculus.specs.Standing.{IsLacking}
use Rattle.spec_calculus.proofs.Items.{of_then}
use Rattle.spec_calculus.proofs.Freshness.{lacking_weaker}
use Rattle.spec_well_formed.specs.Rules.{IsProperRule}
use Rattle.spec_well_formed.specs.Processes.{HasLinearPatterns}
use Rattle.spec_terms.specs.Term.{Term}
use Rattle.spec_clauses.specs.Fact.{Att, Clause}
use Rattle.spec_clauses.specs.Flat.{flat}
use Rattle.spec_clauses.proofs.Lists.{all_second, all_weaker}
use Rattle.spec_derivations.specs.Derivation.{nothing, Derive}
use Rattle.spec_translation.specs.Conversion.{free_term}
use Rattle.spec_translation.specs.Attacker.{name_known}
use Rattle.spec_translation.specs.Visit.{first_visit}
use Rattle.spec_translation.specs.Translation.{Clauses, IsTranslation}
use Rattle.spec_abstraction.specs.Trace.{MadeAt, Trace, start_trace, message_at, after_trace, trace_from, trace_of}
use Rattle.spec_abstraction.specs.Naming.{Naming, abstracted, made_term, Names, naming, event_facts, held_fact}
use Rattle.spec_abstraction.specs.Taken.{IsTaken, HoldsAll}
use Rattle.spec_abstraction.specs.Derived.{IsDerived}
use Rattle.spec_abstraction.specs.OneToOne.{is_foreign}
use Rattle.spec_abstraction.proofs.Acting.{hears_made}
use Rattle.spec_abstraction.proofs.Older.{runs_are_named}
use Rattle.spec_abstraction.proofs.Entries.{more_entries, step_entries, start_lacks}
use Rattle.spec_abstraction.proofs.OneToOne.{runs_are_one_to_one}
use Rattle.spec_abstraction.proofs.Failing.{choices_met}
use Rattle.spec_abstraction.proofs.Holding.{translations_hold_all}
use Rattle.spec_abstraction.proofs.Listed.{taken_derive}
use Rattle.spec_abstraction.proofs.Conclusions.{AttackerHas, attacker_has, applied, later_derived}
use Rattle.spec_abstraction.proofs.Knowledge.{IsKnown}
use Rattle.spec_abstraction.proofs.Standing.{whole_stands}
use Rattle.spec_abstraction.proofs.Steps.{IsEntered, Tracked, TellsFailing, step_tracked}
use Rattle.spec_abstraction.proofs.Following.{phase_goes_on}

-- the names that are made stay made
record MadeMore (t u : Trace) : Type 0 where
  pub newer : List MadeAt
  pub is : u.made ≡ newer ++ t.made

step_made : (P : Protocol) (c : Configuration) (t : Trace) (step : Step) → MadeMore t (after_trace P c t step)
step_made P c t (Build f ks) = record { newer = []; is = refl }
step_made P c t (Reduce d r ks) = record { newer = []; is = refl }
step_made P c t (Part k n) = record { newer = []; is = refl }
step_made P c t Fresh = record { newer = []; is = refl }
step_made P c t (Split n) = record { newer = []; is = refl }
step_made P c t (Copy n) = record { newer = []; is = refl }
step_made P c t (Make n) = record { newer = made_first (after_trace P c t (Make n)).made; is = refl }
  where
    made_first : List MadeAt → List MadeAt
    made_first [] = []
    made_first (e ∷ es) = e ∷ []
step_made P c t (Pass n m) = record { newer = []; is = hears_made t m (acting P c n message_at) }
step_made P c t (Hear n) = record { newer = []; is = refl }
step_made P c t (Say m k) = record { newer = []; is = hears_made t m (numbered c.known k) }
step_made P c t (Take n label) = record { newer = []; is = refl }
step_made P c t (Fail n) = record { newer = []; is = refl }
step_made P c t (Mark n) = record { newer = []; is = refl }
step_made P c t Next = record { newer = []; is = refl }
step_made P c t (Put n) = record { newer = []; is = refl }
step_made P c t (Fetch n k) = record { newer = []; is = refl }
step_made P c t (Miss n) = record { newer = []; is = refl }

made_further : (t u w : Trace) → MadeMore t u → MadeMore u w → MadeMore t w
made_further t u w a b = record { newer = b.newer ++ a.newer; is = b.is ∙ (ap (λ xs. b.newer ++ xs) a.is ∙ sym (append_assoc b.newer a.newer t.made)) }

steps_made : (P : Protocol) (steps : List Step) (c : Configuration) (t : Trace) → MadeMore t (trace_from P c t steps)
steps_made P [] c t = record { newer = []; is = refl }
steps_made P (step ∷ steps) c t = go (after_step P c step) (λ d u. steps_made P steps d u)
  where
    go : (o : Option Configuration) → ((d : Configuration) (u : Trace) → MadeMore u (trace_from P d u steps)) → MadeMore t (option_map_or (λ d. trace_from P d (after_trace P c t step) steps) o t)
    go None further = record { newer = []; is = refl }
    go (Some d) further = made_further t (after_trace P c t step) (trace_from P d (after_trace P c t step) steps) (step_made P c t step) (further d (after_trace P c t step))

-- a name that has no entry at the end has none before
foreign_later : (newer made : List MadeAt) (x : Atom) → is_foreign made x ≡ false → is_foreign (newer ++ made) x ≡ false
foreign_later [] made x h = h
foreign_later (e ∷ newer) made x h = more_entries e (newer ++ made) x (foreign_later newer made x h)

lacking_later : (c : Configuration) (t u : Trace) → MadeMore t u → IsLacking (is_foreign t.made) c → IsLacking (is_foreign u.made) c
lacking_later c t u m h =
    subst (λ es. IsLacking (is_foreign es) c) (sym m.is) (lacking_weaker (is_foreign t.made) (is_foreign (m.newer ++ t.made)) (foreign_later m.newer t.made) c h)

named_before : (P : Protocol) (names : Naming) (t u : Trace) → MadeMore t u → Names P names u.made → Names P names t.made
named_before P names t u m named =
    let e = m.is in
    all_second (λ e. names e.point e.number ≡ made_term P names e) m.newer t.made (subst (Names P names) e named)

module _ (P : Protocol) (names : Naming) (all : List (Clause Term)) (has : AttackerHas P all) where
  -- the public free names are known at the start
  names_known : (pairs : List (ℕ × Declared)) → AllByRecursion (IsTaken all) (filter_map name_known pairs) → AllByRecursion (IsKnown P names all [] 0) (filter_map public_name pairs)
  names_known [] a = tt
  names_known ((number, declared) ∷ pairs) a = go declared.public a (λ h. names_known pairs h)
    where
      go : (b : Bool) → AllByRecursion (IsTaken all) (cons_option (cond b (Some (record { hypotheses = []; diffs = []; conclusion = Att 0 (free_term number) })) None) (filter_map name_known pairs)) → (AllByRecursion (IsTaken all) (filter_map name_known pairs) → AllByRecursion (IsKnown P names all [] 0) (filter_map public_name pairs)) → AllByRecursion (IsKnown P names all [] 0) (cons_option (cond b (Some (Leaf (FreeName number))) None) (filter_map public_name pairs))
      go true h others = (applied P all [] (record { hypotheses = []; diffs = []; conclusion = Att 0 (free_term number) }) Leaf refl h.0 tt nothing, others h.1)
      go false h others = others h

  module _ (proper : (d : ℕ) → AllByRecursion IsProperRule (rules_of P d)) (linear : HasLinearPatterns P.main) (made : List MadeAt) (tells : TellsFailing P names all has (is_foreign made)) where
    -- the trace of all steps is the last one
    steps_tracked : (steps : List Step) (c d : Configuration) (t : Trace) → after_steps P c steps ≡ Some d → (trace_from P c t steps).made ≡ made → IsLacking (is_foreign t.made) c → Names P names (trace_from P c t steps).made → Tracked P names all has c t → Tracked P names all has d (trace_from P c t steps)
    steps_tracked [] c d t e last lacking named a = let same : c ≡ d = cc in subst (λ x. Tracked P names all has x t) same a
    steps_tracked (step ∷ steps) c d t e last lacking named a =
        let (x, stepped, rest) = of_then (λ x. after_steps P x steps) (after_step P c step) d e in
        let u = after_trace P c t step in
        let onward : trace_from P c t (step ∷ steps) ≡ trace_from P x u steps = ap (λ o. option_map_or (λ y. trace_from P y u steps) o t) stepped in
        let named_on : Names P names (trace_from P x u steps).made = subst (λ w. Names P names w.made) onward named in
        let last_on : (trace_from P x u steps).made ≡ made = ap (λ w. w.made) (sym onward) ∙ last in
        let more = made_further t u (trace_from P x u steps) (step_made P c t step) (steps_made P steps x u) in
        let lacking_all = subst (λ es. IsLacking (is_foreign es) c) last_on (lacking_later c t (trace_from P x u steps) more lacking) in
        let first = step_tracked P names all has proper linear (is_foreign made) tells c x t step stepped lacking_all (named_before P names u (trace_from P x u steps) (steps_made P steps x u) named_on) a in
        subst (λ w. Tracked P names all has d w) (sym onward) (steps_tracked steps x d u rest last_on (step_entries P c x t step stepped lacking) named_on first)

module _ (P : Protocol) (q : Query) (all : List (Clause Term)) (holds : HoldsAll P q all) (proper : (d : ℕ) → AllByRecursion IsProperRule (rules_of P d)) (linear : HasLinearPatterns P.main) where
  start_tracked : (names : Naming) (has : AttackerHas P all) → Tracked P names all has (start P) start_trace
  start_tracked names has =
      let stands = whole_stands P.main in
      record {
        within = omega arith;
        threads = ((P.main, stands, record { visit = first_visit; by = Leaf; carried = record { facts = []; diffs = []; phase = 0 }; has_visit = holds.process; closed = refl; in_phase = phase_goes_on P.main 0 0 refl; met = tt; derived = nothing }), tt);
        known = names_known P names all has (enumerate_from 1 P.frees) has.names;
        entries = tt;
        happened = λ k e at. absurd (no_event k e at);
        counted = tt;
      }
    where
      no_event : (k : ℕ) (e : Performed) → slice_get [] k ≡ Some e → ⊥
      no_event k e at = cc

  held_runs_are_derived : (steps : List Step) (c : Configuration) → run P steps ≡ Some c → IsDerived P (naming P (trace_of P steps).made) all c (trace_of P steps).made
  held_runs_are_derived steps c e =
      let has = attacker_has P all holds.attacker in
      let made = (trace_of P steps).made in
      let names = naming P made in
      let tells = choices_met P made (runs_are_one_to_one P steps c e) in
      let tracked = steps_tracked P names all has proper linear made (λ environment lacks pattern expression never. tells environment lacks proper pattern expression never) steps (start P) c start_trace e refl (start_lacks P) (runs_are_named P steps c e) (start_tracked names has) in
      record {
        known = λ phase after within. all_weaker (IsKnown P names all (event_facts P names c.events) c.phase) (λ v. Derive all (event_facts P names c.events) (flat (Att phase (abstracted P names v))))
            (λ v d. taken_derive all (event_facts P names c.events) (later_derived P all (event_facts P names c.events) has c.phase phase (abstracted P names v) after within d)) c.known tracked.known;
        happened = λ k e at. taken_derive all (event_facts P names (take k c.events)) (tracked.happened k e at);
        entered = all_weaker (IsEntered P names all has (event_facts P names c.events)) (λ held. Derive all (event_facts P names c.events) (held_fact P names held ∷ [])) (λ held d. taken_derive all (event_facts P names c.events) d) c.entries tracked.entries;
        within = tracked.within;
        counted = tracked.counted;
      }

pub runs_are_derived : (P : Protocol) (q : Query) (all : List (Clause Term)) → IsTranslation P q (Clauses all) → ((d : ℕ) → AllByRecursion IsProperRule (rules_of P d)) → HasLinearPatterns P.main → (steps : List Step) (c : Configuration) → run P steps ≡ Some c → IsDerived P (naming P (trace_of P steps).made) all c (trace_of P steps).made
runs_are_derived P q all is proper linear = held_runs_are_derived P q all (translations_hold_all P q all is) proper linear
