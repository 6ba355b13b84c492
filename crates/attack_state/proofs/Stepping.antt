-- One more step of the run over ids.
use Rattle.std.proofs.Common.{◌≡◌, ℕ, ◌+◌, ◌<◌, cond, List, [], ◌∷◌, ◌++◌, length, map, take, Option, None, Some, option_and_then, option_map, is_none, refl, sym, ap, ◌∙◌, subst, arith, length-append}
use Rattle.std.proofs.lemmas.List.{map-append, take_at}
use Rattle.spec_calculus.specs.Syntax.{Protocol}
use Rattle.spec_calculus.specs.Runs.{Configuration, Step, after_step}
use Rattle.spec_calculus.specs.Values.{Value}
use Rattle.spec_calculus.specs.Refusals.{Refusal}
use Rattle.spec_calculus.specs.Limits.{limited_refusal}
use Rattle.spec_calculus.specs.Standing.{names_made, phases_begun}
use Rattle.spec_calculus.proofs.Items.{of_map, of_then, if_some-is}
use Rattle.spec_calculus.proofs.Growth.{Advances, step_advances}
use Rattle.spec_terms.specs.Term.{Term}
use Rattle.pi_configurations.specs.Configurations.{configuration_of, IsConfigurationOf}
use Rattle.pi_model.specs.declared.steps.Step as made_step
use Rattle.pi_model.specs.Steps.{step_of}
use Rattle.held_entries.specs.Keys.{value_key}
use Rattle.spec_attack_runs.specs.Compiling.{State, limited_step, stepped, all_stepped, take_step}
use Rattle.spec_attack_runs.specs.Attack.{most_steps}
use Rattle.attack_state.specs.declared.state.State.{State as MadeState}
use Rattle.attack_state.specs.declared.values.Known.{Known as MadeKnown}
use Rattle.attack_state.specs.declared.values.Names.{Names as MadeNames}
use Rattle.attack_state.specs.declared.done.DoneNodes.{DoneNodes as MadeDoneNodes}
use Rattle.attack_state.specs.Listing.{AreListed}
use Rattle.attack_state.specs.Parts.{with_parts}
use Rattle.attack_state.specs.States.{NameNamed, named_class, NameDone, done_class, KnowsValues, KnowsSome, IsRun, IsState}
use Rattle.attack_state.proofs.Few.{adds_few}

-- a step that no limit refuses leads where it leads
pub stepped_done : (P : Protocol) (st : State) (step : Step) (c d : Configuration) → c ≡ st.configuration → after_step P c step ≡ Some d → limited_refusal P c step ≡ None
    → stepped P step st ≡ Some (record st { configuration = d; steps = st.steps ++ step ∷ [] })
stepped_done P st step c d e after allowed =
    let here : limited_refusal P st.configuration step ≡ None = ap (λ (x : Configuration). limited_refusal P x step) (sym e) ∙ allowed in
    let there : after_step P st.configuration step ≡ Some d = ap (λ (x : Configuration). after_step P x step) (sym e) ∙ after in
    ap (λ (o : Option Refusal). option_map (λ (x : Configuration). record st { configuration = x; steps = st.steps ++ step ∷ [] }) (cond (is_none o) (after_step P st.configuration step) None)) here
    ∙ ap (option_map (λ (x : Configuration). record st { configuration = x; steps = st.steps ++ step ∷ [] })) there

-- it has one step more
pub stepped-length : (P : Protocol) (step : Step) (st next : State) → stepped P step st ≡ Some next → length next.steps ≡ length st.steps + 1
stepped-length P step st next h =
    let parts = of_map (λ (x : Configuration). record st { configuration = x; steps = st.steps ++ step ∷ [] }) (limited_step P st.configuration step) next h in
    ap (λ (s : State). length s.steps) (sym parts.2) ∙ length-append st.steps (step ∷ [])

-- the values that were known are the first
pub knows_some : (P : Protocol) (c d : Configuration) (step : Step) (index : MadeKnown) → after_step P c step ≡ Some d → KnowsValues c.known index → KnowsSome d.known index
knows_some P c d step index after knows =
    let advances = if_some-is (Advances (names_made step) (phases_begun step) c) (after_step P c step) d (step_advances P c step) after in
    let more = advances.known.0 in
    let is : d.known ≡ c.known ++ more = advances.known.1 in
    let count = knows.count in
    let first : take index.count d.known ≡ c.known = ap (take index.count) is ∙ take_at c.known more index.count (sym count) in
    record {
      within = omega (arith, count, ap length is, length-append c.known more);
      listed = subst (λ (vs : List Value). AreListed value_key vs index.classes) (sym first) knows.listed;
    }

-- the run and the state behind a step
pub run_stepped : (P : Protocol) (old new : MadeState) (step : Step) → IsRun P old → after_step P (configuration_of old.conf) step ≡ Some (configuration_of new.conf)
    → IsConfigurationOf P new.conf → new.conf.steps ≡ old.conf.steps + 1 → length old.steps.items < most_steps → length new.steps.items ≡ length old.steps.items + 1
    → KnowsValues new.conf.known new.known → IsRun P new
run_stepped P old new step run after of_protocol counted few longer known =
    let adds = adds_few P (configuration_of old.conf) (configuration_of new.conf) step after in
    record {
      of_protocol = of_protocol;
      counted = omega (arith, counted, run.counted, longer);
      few = omega (arith, few, longer);
      known = known;
      few_known = omega (arith, adds.known, run.few_known, longer);
      few_threads = omega (arith, adds.threads, run.few_threads, longer);
      few_entries = omega (arith, adds.entries, run.few_entries, longer);
      room = run.room;
      points = run.points;
    }

pub state_stepped : (all : List Term) (old new : MadeState) (st : State) (step : made_step.Step) → IsState all old st → new.steps.items ≡ old.steps.items ++ step ∷ [] → new.names ≡ old.names → new.done ≡ old.done → new.waiting ≡ old.waiting
    → IsState all new (record st { configuration = configuration_of new.conf; steps = st.steps ++ step_of step ∷ [] })
state_stepped all old new st step is steps names done waiting = record {
  configuration = refl;
  steps = ap (map step_of) steps ∙ (map-append step_of old.steps.items (step ∷ []) ∙ ap (λ l. l ++ step_of step ∷ []) is.steps);
  names = subst (λ (n : MadeNames). NameNamed all n.items.items st.names) (sym names) is.names;
  names_listed = subst (λ (n : MadeNames). AreListed named_class n.items.items n.classes) (sym names) is.names_listed;
  done = subst (λ (n : MadeDoneNodes). NameDone all n.items.items st.done) (sym done) is.done;
  done_listed = subst (λ (n : MadeDoneNodes). AreListed done_class n.items.items n.classes) (sym done) is.done_listed;
  waiting = ap (λ w. w.items) waiting ∙ is.waiting;
}

-- steps one after another
then_then : (f g h : State → Option State) (o : Option State) → ((s : State) → h s ≡ option_and_then g (f s)) → option_and_then h o ≡ option_and_then g (option_and_then f o)
then_then f g h None e = refl
then_then f g h (Some s) e = e s

pub all_stepped-append : (P : Protocol) (xs ys : List Step) (st : State) → all_stepped P (xs ++ ys) st ≡ option_and_then (all_stepped P ys) (all_stepped P xs st)
all_stepped-append P [] ys st = refl
all_stepped-append P (x ∷ xs) ys st = then_then (all_stepped P xs) (all_stepped P ys) (all_stepped P (xs ++ ys)) (stepped P x st) (λ s. all_stepped-append P xs ys s)

pub stepped_more : (P : Protocol) (xs : List Step) (x : Step) (st s next : State) → all_stepped P xs st ≡ Some s → stepped P x s ≡ Some next → all_stepped P (xs ++ x ∷ []) st ≡ Some next
stepped_more P xs x st s next e h = all_stepped-append P xs (x ∷ []) st ∙ (ap (option_and_then (all_stepped P (x ∷ []))) e ∙ ap (option_and_then (all_stepped P [])) h)

pub all_stepped-length : (P : Protocol) (steps : List Step) (st next : State) → all_stepped P steps st ≡ Some next → length next.steps ≡ length st.steps + length steps
all_stepped-length P [] st next h = let same : st ≡ next = cc in omega (arith, ap (λ (s : State). length s.steps) same)
all_stepped-length P (x ∷ xs) st next h =
    let parts = of_then (all_stepped P xs) (stepped P x st) next h in
    omega (arith, stepped-length P x st parts.0 parts.1, all_stepped-length P xs parts.0 next parts.2)

-- a step, and the parts of what it makes known
pub take_step-is : (P : Protocol) (step : Step) (st : State) (before : ℕ) → before ≡ length st.configuration.known → take_step P step st ≡ option_and_then (with_parts P before) (stepped P step st)
unfolding take_step
take_step-is P step st before e = ap (λ (n : ℕ). option_and_then (with_parts P n) (stepped P step st)) (sym e)
