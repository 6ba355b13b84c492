-- Instances compiled one after another, phase by phase.
use Rattle.std.proofs.Common.{◌≡◌, ℕ, zero, suc, ◌+◌, ◌-◌, ◌<◌, ◌≤◌, nat_eq, Bool, true, false, cond, List, [], ◌∷◌, ◌++◌, length, map, drop, get_or, slice_get, filter, Option, None, Some, IfSome, option_and_then, option_map, refl, sym, ap, ◌∙◌, subst, add-one, arith}
use Rattle.std.proofs.lemmas.List.{length-map}
use Rattle.spec_trees.specs.Tree.{trees}
use Rattle.spec_calculus.specs.Syntax.{Protocol}
use Rattle.spec_calculus.specs.Points.{greatest_phase}
use Rattle.spec_calculus.specs.Runs.{Step, Build, Reduce}
use Rattle.spec_calculus.proofs.Items.{of_some, of_map}
use Rattle.spec_terms.specs.Term.{Term}
use Rattle.term_tree.specs.Bank.{Grows}
use Rattle.term_tree.proofs.BankLaws.{AreKnown-grows}
use Rattle.spec_attack_runs.specs.Source.{Action, Builds, Reduces, Source, stage_of}
use Rattle.spec_attack_runs.specs.Compiling.{State, start_state, take_step, row_placed}
use Rattle.spec_attack_runs.specs.Attack.{most_steps, supposed, acted, compiled, all_compiled, in_phases, by_phase}
use Rattle.spec_attack_runs.proofs.Longer.{all_compiled_longer}
use Rattle.pi_model.specs.Steps.{step_of}
use Rattle.clause_instances.specs.declared.instance.Instance.{Instance as MadeInstance}
use Rattle.clause_instances.specs.Instances.{IsActionOf, NamesInstance, NameInstances, AreKnownInstances}
use Rattle.attack_state.specs.declared.state.State.{State as MadeState}
use Rattle.attack_state.specs.Outcomes.{IsStuck, IsDoneBy, Places}
use Rattle.attack_state.specs.States.{IsState}
use Rattle.attack_state.proofs.Behind.{take_step_from}
use Rattle.attack_state.proofs.Named.{terms-grow}
use Rattle.attack_state.proofs.Outcomes.{NoFewer, stuck_then}
use Rattle.attack_compiling.specs.Compiled.{compile_in, AreCompiledTo}
use Rattle.attack_compiling.proofs.Behind.{stuck_with}
use Rattle.attack_compiling.proofs.SoFar.{CompiledSoFar, PhasesSoFar}

-- instances in a bank that grew
pub instance-grow : (a b : List Term) (sources : List Source) (ids : MadeInstance) (one : Source) → Grows a b → NamesInstance a sources ids one → NamesInstance b sources ids one
instance-grow a b sources ids one grows h = record {
  source = h.source;
  at = h.at;
  stage = h.stage;
  supposed_named = terms-grow a b ids.supposed (supposed one.raw) grows h.supposed_named;
  messages = h.messages;
  messages_named = terms-grow a b ids.messages h.messages grows h.messages_named;
  sessions = h.sessions;
  sessions_named = terms-grow a b ids.sessions h.sessions grows h.sessions_named;
  action = h.action;
}

pub instances-grow : (a b : List Term) (sources : List Source) (ids : List MadeInstance) (all : List Source) → Grows a b → NameInstances a sources ids all → NameInstances b sources ids all
instances-grow a b sources [] [] grows h = tt
instances-grow a b sources [] (y ∷ ys) grows h = h
instances-grow a b sources (x ∷ xs) [] grows h = h
instances-grow a b sources (x ∷ xs) (y ∷ ys) grows h = (instance-grow a b sources x y grows h.0, instances-grow a b sources xs ys grows h.1)

pub known-grow : (a b : List Term) (ids : List MadeInstance) → Grows a b → AreKnownInstances a ids → AreKnownInstances b ids
known-grow a b [] grows h = tt
known-grow a b (x ∷ xs) grows h = (
  record {
    supposed = AreKnown-grows a b x.supposed grows h.0.supposed;
    messages = AreKnown-grows a b x.messages grows h.0.messages;
    sessions = AreKnown-grows a b x.sessions grows h.0.sessions;
  },
  known-grow a b xs grows h.1,
)

pub record InstanceAt (a : List Term) (sources : List Source) (x : MadeInstance) (i : ℕ) (all : List Source) : Type 0 where
  pub one : Source
  pub rest : drop i all ≡ one ∷ drop (suc i) all
  pub names : NamesInstance a sources x one

pub instance_at : (a : List Term) (sources : List Source) (ids : List MadeInstance) (all : List Source) (i : ℕ) (x : MadeInstance) → x ≡ get_or ids i x → i < length ids → NameInstances a sources ids all → InstanceAt a sources x i all
instance_at a sources [] all i x is within h = absurd (omega (arith, within))
instance_at a sources (y ∷ ys) [] i x is within h = absurd h
instance_at a sources (y ∷ ys) (z ∷ zs) zero x is within h = record { one = z; rest = refl; names = subst (λ (w : MadeInstance). NamesInstance a sources w z) (sym is) h.0 }
instance_at a sources (y ∷ ys) (z ∷ zs) (suc i) x is within h =
    let at = instance_at a sources ys zs i x is (omega (arith, within)) h.1 in record { one = at.one; rest = at.rest; names = at.names }

pub nothing_after : (a : List Term) (sources : List Source) (ids : List MadeInstance) (all : List Source) (i : ℕ) → length ids ≤ i → NameInstances a sources ids all → drop i all ≡ []
nothing_after a sources [] [] zero past h = refl
nothing_after a sources [] [] (suc i) past h = refl
nothing_after a sources [] (z ∷ zs) i past h = absurd h
nothing_after a sources (y ∷ ys) [] i past h = absurd h
nothing_after a sources (y ∷ ys) (z ∷ zs) zero past h = absurd (omega (arith, past))
nothing_after a sources (y ∷ ys) (z ∷ zs) (suc i) past h = nothing_after a sources ys zs i (omega (arith, past)) h.1

module _ (P : Protocol) where
  then_itself : (o : Option State) → option_and_then (λ s. Some s) o ≡ o
  then_itself None = refl
  then_itself (Some s) = refl

  -- one instance, of the phase or not
  pub one_in : (phase : ℕ) (one : Source) (st : State) → nat_eq (stage_of one) phase ≡ true → compile_in P phase (one ∷ []) st ≡ compiled P one st
  one_in phase one st e = ap (λ (b : Bool). all_compiled P (cond b (one ∷ []) []) st) e ∙ then_itself (compiled P one st)

  pub phase_step : (phase : ℕ) (one : Source) (rest : List Source) (st : State) → compile_in P phase (one ∷ rest) st ≡ option_and_then (compile_in P phase rest) (compile_in P phase (one ∷ []) st)
  phase_step phase one rest st = go (nat_eq (stage_of one) phase)
    where
      others : List Source
      others = filter (λ i. nat_eq (stage_of i) phase) rest

      first : (o : Option State) → option_and_then (all_compiled P others) o ≡ option_and_then (compile_in P phase rest) (option_and_then (all_compiled P []) o)
      first None = refl
      first (Some s) = refl

      go : (b : Bool) → all_compiled P (cond b (one ∷ others) others) st ≡ option_and_then (compile_in P phase rest) (all_compiled P (cond b (one ∷ []) []) st)
      go true = first (compiled P one st)
      go false = refl

  pub all_compiled-append : (xs ys : List Source) (st : State) → all_compiled P (xs ++ ys) st ≡ option_and_then (all_compiled P ys) (all_compiled P xs st)
  all_compiled-append [] ys st = refl
  all_compiled-append (x ∷ xs) ys st = go (λ s. all_compiled-append xs ys s) (compiled P x st)
    where
      go : ((s : State) → all_compiled P (xs ++ ys) s ≡ option_and_then (all_compiled P ys) (all_compiled P xs s)) → (o : Option State)
          → option_and_then (all_compiled P (xs ++ ys)) o ≡ option_and_then (all_compiled P ys) (option_and_then (all_compiled P xs) o)
      go rest None = refl
      go rest (Some s) = rest s

  pub no_fewer : (instances : List Source) → NoFewer (all_compiled P instances)
  no_fewer instances = λ s. all_compiled_longer P (length s.steps) instances s (omega arith)

  -- the phases that are left
  pub phases_step : (k count left : ℕ) (instances : List Source) (st : State) → left ≡ suc count
      → all_compiled P (in_phases k left instances) st ≡ option_and_then (all_compiled P (in_phases (k + 1) count instances)) (compile_in P k instances st)
  phases_step k count left instances st e =
      ap (λ (n : ℕ). all_compiled P (in_phases k n instances) st) e ∙ all_compiled-append (filter (λ i. nat_eq (stage_of i) k) instances) (in_phases (k + 1) count instances) st

  pub phases_end : (k left : ℕ) (instances : List Source) (st : State) → left ≡ 0 → all_compiled P (in_phases k left instances) st ≡ Some st
  phases_end k left instances st e = ap (λ (n : ℕ). all_compiled P (in_phases k n instances) st) e

-- what an instance of a source does
module _ (all : List Term) (sources : List Source) (ids : MadeInstance) (one source : Source) (h : NamesInstance all sources ids one) (at : slice_get sources ids.source ≡ Some source) where
  pub source_same : h.source ≡ source
  source_same = of_some h.source source (sym h.at ∙ at)

  pub stage_same : stage_of one ≡ stage_of source
  stage_same = h.stage ∙ ap stage_of source_same

  action_named : (action : Action) → source.action ≡ action → IsActionOf action h.messages h.sessions one.action
  action_named action e = subst (λ (a : Action). IsActionOf a h.messages h.sessions one.action) (ap (λ (s : Source). s.action) source_same ∙ e) h.action

  pub builds_named : (f : ℕ) → source.action ≡ Builds f → one.action ≡ Builds f
  builds_named f e = action_named (Builds f) e

  pub reduces_named : (d r : ℕ) → source.action ≡ Reduces d r → one.action ≡ Reduces d r
  reduces_named d r e = action_named (Reduces d r) e

module _ (P : Protocol) (one : Source) (st : State) where
  pub builds_as : (f : ℕ) (terms : List Term) → one.action ≡ Builds f → terms ≡ supposed one.raw → compiled P one st ≡ option_and_then (λ ks. take_step P (Build f ks.0) ks.1) (row_placed P (trees terms) st)
  builds_as f terms e same =
      ap (λ (a : Action). acted P (supposed one.raw) a st) e ∙ ap (λ (ts : List Term). option_and_then (λ ks. take_step P (Build f ks.0) ks.1) (row_placed P (trees ts) st)) (sym same)

  pub reduces_as : (d r : ℕ) (terms : List Term) → one.action ≡ Reduces d r → terms ≡ supposed one.raw → compiled P one st ≡ option_and_then (λ ks. take_step P (Reduce d r ks.0) ks.1) (row_placed P (trees terms) st)
  reduces_as d r terms e same =
      ap (λ (a : Action). acted P (supposed one.raw) a st) e ∙ ap (λ (ts : List Term). option_and_then (λ ks. take_step P (Reduce d r ks.0) ks.1) (row_placed P (trees ts) st)) (sym same)

  -- a step on the places of terms
  module _ (step : List ℕ → Step) (terms : List Term) (same : compiled P one st ≡ option_and_then (λ ks. take_step P (step ks.0) ks.1) (row_placed P (trees terms) st)) where
    behind : (x : List ℕ × State) → IfSome (take_step P (step x.0) x.1) (λ n. length x.1.steps ≤ length n.steps)
    behind x = take_step_from P (length x.1.steps) (step x.0) x.1 (omega arith)

    pub applies_stuck : ((found : List ℕ) (s : State) → row_placed P (trees terms) st ≡ Some (found, s) → most_steps < length s.steps) → IsStuck (compiled P one) st
    applies_stuck stuck = λ next e. stuck_with P (row_placed P (trees terms) st) (λ ks. take_step P (step ks.0) ks.1) behind stuck next (sym same ∙ e)

-- places that were not found
pub placed_nothing : {A : Type 0} (f : State → Option (A × State)) (st : State) (all : List Term) (ids : MadeState) (found : Option A) → found ≡ None → Places f st all ids found
    → (places : A) (next : State) → f st ≡ Some (places, next) → most_steps < length next.steps
placed_nothing {A} f st all ids found e h = subst (λ (o : Option A). Places f st all ids o) e h

-- the loop over the instances of a phase
module _ (P : Protocol) (phase : ℕ) (instances : List Source) where
  module _ (before all : List Term) (st : State) (i : ℕ) (one : Source) (rest : drop i instances ≡ one ∷ drop (suc i) instances) (ids : MadeState) (so_far : CompiledSoFar P before phase instances (drop i instances) st ids) where
    split_here : compile_in P phase instances st ≡ option_and_then (compile_in P phase (drop (suc i) instances)) (compile_in P phase (one ∷ []) so_far.next)
    split_here = so_far.same ∙ (ap (λ (l : List Source). compile_in P phase l so_far.next) rest ∙ phase_step P phase one (drop (suc i) instances) so_far.next)

    pub compiled_more : (now : MadeState) → IsDoneBy (compile_in P phase (one ∷ [])) so_far.next all now → CompiledSoFar P all phase instances (drop (i + 1) instances) st now
    compiled_more now did = record {
      next = did.next;
      is = did.is;
      same = split_here ∙ (ap (option_and_then (compile_in P phase (drop (suc i) instances))) did.gives ∙ ap (λ (n : ℕ). compile_in P phase (drop n instances) did.next) (sym (add-one i)));
    }

    pub compiled_stop : IsStuck (compile_in P phase (one ∷ [])) so_far.next → IsStuck (compile_in P phase instances) st
    compiled_stop stuck = λ next e.
        stuck_then (compile_in P phase (drop (suc i) instances)) (compile_in P phase (one ∷ []) so_far.next) (no_fewer P (filter (λ s. nat_eq (stage_of s) phase) (drop (suc i) instances))) stuck next (sym split_here ∙ e)

  pub compiled_end : (all : List Term) (st : State) (i : ℕ) (ids : MadeState) → drop i instances ≡ [] → CompiledSoFar P all phase instances (drop i instances) st ids → IsDoneBy (compile_in P phase instances) st all ids
  compiled_end all st i ids e so_far = record { next = so_far.next; gives = so_far.same ∙ ap (λ (l : List Source). compile_in P phase l so_far.next) e; is = so_far.is }

-- the loop over phases
module _ (P : Protocol) (instances : List Source) (st : State) where
  pub phases_start : (all : List Term) (ids : MadeState) → IsState all ids st → PhasesSoFar P all 0 instances st ids
  phases_start all ids is = record { next = st; is = is; same = ap (λ (n : ℕ). all_compiled P (in_phases 0 n instances) st) (whole (suc (greatest_phase P.main))) }
    where
      whole : (n : ℕ) → n ≡ n - 0
      whole n = omega arith

  module _ (before all : List Term) (phase : ℕ) (ids : MadeState) (so_far : PhasesSoFar P before phase instances st ids) where
    here : phase < greatest_phase P.main + 1 → all_compiled P (by_phase P instances) st ≡ option_and_then (all_compiled P (in_phases (phase + 1) (suc (greatest_phase P.main) - (phase + 1)) instances)) (compile_in P phase instances so_far.next)
    here less = so_far.same ∙ phases_step P phase (suc (greatest_phase P.main) - (phase + 1)) (suc (greatest_phase P.main) - phase) instances so_far.next (left (greatest_phase P.main) less)
      where
        left : (g : ℕ) → phase < g + 1 → suc g - phase ≡ suc (suc g - (phase + 1))
        left g less = omega (arith, less)

    pub phases_more : (now : MadeState) → phase < greatest_phase P.main + 1 → IsDoneBy (compile_in P phase instances) so_far.next all now → PhasesSoFar P all (phase + 1) instances st now
    phases_more now less did = record {
      next = did.next;
      is = did.is;
      same = here less ∙ ap (option_and_then (all_compiled P (in_phases (phase + 1) (suc (greatest_phase P.main) - (phase + 1)) instances))) did.gives;
    }

    pub phases_stop : phase < greatest_phase P.main + 1 → IsStuck (compile_in P phase instances) so_far.next → (next : State) → all_compiled P (by_phase P instances) st ≡ Some next → most_steps < length next.steps
    phases_stop less stuck next e =
        stuck_then (all_compiled P (in_phases (phase + 1) (suc (greatest_phase P.main) - (phase + 1)) instances)) (compile_in P phase instances so_far.next)
        (no_fewer P (in_phases (phase + 1) (suc (greatest_phase P.main) - (phase + 1)) instances)) stuck next (sym (here less) ∙ e)

    pub phases_done : greatest_phase P.main + 1 ≤ phase → all_compiled P (by_phase P instances) st ≡ Some so_far.next
    phases_done past = so_far.same ∙ phases_end P phase (suc (greatest_phase P.main) - phase) instances so_far.next (none (greatest_phase P.main) past)
      where
        none : (g : ℕ) → g + 1 ≤ phase → suc g - phase ≡ 0
        none g past = omega (arith, past)

-- what the instances are compiled to
pub compiles_to : (P : Protocol) (instances : List Source) (all : List Term) (ids : MadeState) (next : State) → all_compiled P (by_phase P instances) (start_state P) ≡ Some next → IsState all ids next → length ids.steps.items ≤ most_steps
    → AreCompiledTo P instances (map step_of ids.steps.items)
compiles_to P instances all ids next e is few = record {
  compiles = ap (option_map (λ st. st.steps)) e ∙ ap Some (sym is.steps);
  short = omega (arith, few, length-map ids.steps.items step_of);
}

pub compiles_nowhere : (P : Protocol) (instances : List Source) → ((next : State) → all_compiled P (by_phase P instances) (start_state P) ≡ Some next → most_steps < length next.steps) → (steps : List Step) → AreCompiledTo P instances steps → ⊥
compiles_nowhere P instances stuck steps h =
    let parts = of_map (λ (s : State). s.steps) (all_compiled P (by_phase P instances) (start_state P)) steps h.compiles in
    let long = stuck parts.0 parts.1 in
    let same = ap length parts.2 in absurd (omega (arith, long, same, h.short))
