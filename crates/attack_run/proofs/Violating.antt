-- Steps that an entry is compiled to, where a beginning of them ends in a violation, and where none does.
use Rattle.std.specs.Global.{Vec}
use Rattle.std.proofs.Common.{◌≡◌, ℕ, zero, suc, ◌-◌, true, List, [], ◌∷◌, take, map, Option, None, Some, Result, Ok, Err, IfOk, slice_get, option_map, is_none, refl, sym, ap, ◌∙◌, subst, arith}
use Rattle.spec_calculus.specs.Syntax.{Query, Protocol}
use Rattle.spec_calculus.specs.Runs.{Configuration, Step, start, after_step, after_steps, run}
use Rattle.spec_calculus.specs.Refusals.{Refusal}
use Rattle.spec_calculus.specs.Limits.{limited_refusal}
use Rattle.spec_calculus.proofs.Items.{of_some, of_then, of_cond}
use Rattle.spec_saturation.specs.Key.{Entry}
use Rattle.run_replay.specs.Reached.{IsDoneSomewhere, IsViolatedSometime}
use Rattle.run_replay.specs.Replay.{IsRefusedAt}
use Rattle.spec_terms.specs.Term.{Term}
use Rattle.pi_model.specs.Steps.{step_of}
use Rattle.pi_model.specs.declared.steps.Step.{Step as MadeStep}
use Rattle.spec_attack_runs.specs.Source.{Source}
use Rattle.spec_attack_runs.specs.Gathered.{AreSources}
use Rattle.spec_attack_runs.specs.Instance.{ComesFrom}
use Rattle.spec_attack_runs.specs.Compiling.{limited_step, limited_steps}
use Rattle.spec_attack_runs.specs.Attack.{compiled_steps, IsCompiled, Violates, IsAttack}
use Rattle.spec_attack_runs.proofs.Laws.{compiled_replay}
use Rattle.spec_attack_runs.proofs.OneAnswer.{one_compiled}
use Rattle.spec_attack_runs.proofs.OneDescent.{one_origin}
use Rattle.spec_attack_runs.proofs.OneList.{one_list}
use Rattle.clause_instances.specs.declared.instance.Instance.{Instance as MadeInstance}
use Rattle.clause_instances.specs.Derivations.{ComesFromFew, TellsInstances, AreInstancesOf}
use Rattle.attack_compiling.specs.Compiled.{CompilesTo}
use Rattle.attack_run.specs.Told.{AreCompiled}

not_refused : (o : Option Refusal) → is_none o ≡ true → o ≡ None
not_refused None e = refl
not_refused (Some r) e = cc

-- none of the steps is refused
unrefused : (P : Protocol) (steps : List Step) (c end : Configuration) → limited_steps P c steps ≡ Some end → (k : ℕ) (before : Configuration) (step : Step) → after_steps P c (take k steps) ≡ Some before → slice_get steps k ≡ Some step
    → limited_refusal P before step ≡ None
unrefused P [] c end e k before step reached at = cc
unrefused P (x ∷ xs) c end e zero before step reached at =
    let first = of_then (λ d. limited_steps P d xs) (limited_step P c x) end e in
    let allowed = of_cond (is_none (limited_refusal P c x)) (after_step P c x) first.0 first.1 in
    let here : c ≡ before = of_some c before reached in
    let this : x ≡ step = of_some x step at in
    ap (λ (d : Configuration). limited_refusal P d step) (sym here) ∙ (ap (limited_refusal P c) (sym this) ∙ not_refused (limited_refusal P c x) allowed.0)
unrefused P (x ∷ xs) c end e (suc k) before step reached at =
    let first = of_then (λ d. limited_steps P d xs) (limited_step P c x) end e in
    let allowed = of_cond (is_none (limited_refusal P c x)) (after_step P c x) first.0 first.1 in
    let later = of_then (λ d. after_steps P d (take k xs)) (after_step P c x) before reached in
    let same : later.0 ≡ first.0 = of_some later.0 first.0 (sym later.1 ∙ allowed.1) in
    unrefused P xs first.0 end first.2 k before step (ap (λ (d : Configuration). after_steps P d (take k xs)) (sym same) ∙ later.2) at

pub done_somewhere : (P : Protocol) (steps : List Step) (end : Configuration) → limited_steps P (start P) steps ≡ Some end → run P steps ≡ Some end → IsDoneSomewhere P steps
done_somewhere P steps end e ends = (end, record { ends = ends; none_refused = λ number refusal h. none number refusal h })
  where
    none : (number : ℕ) (refusal : Refusal) → IsRefusedAt P steps number refusal → ⊥
    none zero refusal h = let next = h.next in cc
    none (suc k) refusal h =
        let back : suc k - 1 ≡ k = omega arith in
        let reached = subst (λ (n : ℕ). run P (take n steps) ≡ Some h.before) back h.reached in
        let unrefused_there : limited_refusal P h.before h.step ≡ None = unrefused P steps (start P) end e k h.before h.step reached h.next in
        let refused = h.refused in cc

module _ (P : Protocol) (q : Query) (log : List Entry) (number : ℕ) (steps : List Step) (compiled : IsCompiled P q log number steps) where
  -- and where they don't there is none
  pub no_attack : (IsDoneSomewhere P steps → IsViolatedSometime P steps q → ⊥) → (other : List Step) → IsAttack P q log number other → ⊥
  no_attack never other attack =
      let replay = compiled_replay P q log number steps compiled in
      let v = subst (λ (l : List Step). Violates P q l) (one_compiled P q log number other steps attack.compiled compiled) attack.violates in
      never (done_somewhere P steps replay.0 replay.1 replay.2) (v.count, record { configuration = v.configuration; reached = v.runs; violated = v.violated })

-- the steps that an entry is compiled to, by the sources and instances that were found
module _ (P : Protocol) (q : Query) (log : List Entry) (number : ℕ) (sources : List Source) (are : AreSources P q sources) where
  come_of : (steps : List Step) (h : IsCompiled P q log number steps) → ComesFrom sources log number h.instances
  come_of steps h = subst (λ (s : List Source). ComesFrom s log number h.instances) (one_list P q h.sources sources h.are_sources are) h.come

  pub compiled_nowhere : ((instances : List Source) → ComesFromFew sources log number instances → ⊥) → (steps : List Step) → IsCompiled P q log number steps → ⊥
  compiled_nowhere never steps h = never h.instances (record { come = come_of steps h; few = h.few })

  pub compiled_as : (instances : List Source) → ComesFromFew sources log number instances → (found : Option (Vec MadeStep)) → CompilesTo P instances (option_map (λ steps. steps.items) found) → AreCompiled P q log number (option_map (λ steps. map step_of steps.items) found)
  compiled_as instances come (Some steps) h = record {
    sources = sources;
    instances = instances;
    are_sources = are;
    come = come.come;
    few = come.few;
    compiles = h.compiles;
    short = h.short;
  }
  compiled_as instances come None h = λ steps compiled.
      let same = one_origin sources log number compiled.instances instances (come_of steps compiled) come.come in
      h steps (record { compiles = ap (compiled_steps P) (sym same) ∙ compiled.compiles; short = compiled.short })

  pub result_compiled : {E : Type 0} (instances : List Source) → ComesFromFew sources log number instances → (r : Result (Option (Vec MadeStep)) E) → IfOk r (λ found. CompilesTo P instances (option_map (λ steps. steps.items) found))
      → IfOk r (λ found. AreCompiled P q log number (option_map (λ steps. map step_of steps.items) found))
  result_compiled instances come (Ok found) h = compiled_as instances come found h
  result_compiled instances come (Err e) h = tt

-- instances that were found, or not
pub told_instances : (all : List Term) (sources : List Source) (log : List Entry) (number : ℕ) (found : Option (List MadeInstance)) (ids : List MadeInstance) → found ≡ Some ids → AreInstancesOf all sources log number found → TellsInstances all sources log number ids
told_instances all sources log number found ids e h = subst (λ (o : Option (List MadeInstance)). AreInstancesOf all sources log number o) e h

pub told_none : (all : List Term) (sources : List Source) (log : List Entry) (number : ℕ) (found : Option (List MadeInstance)) → found ≡ None → AreInstancesOf all sources log number found → (instances : List Source) → ComesFromFew sources log number instances → ⊥
told_none all sources log number found e h = subst (λ (o : Option (List MadeInstance)). AreInstancesOf all sources log number o) e h

-- and steps
module _ (P : Protocol) (q : Query) (log : List Entry) (number : ℕ) (found : Option (Vec MadeStep)) (h : AreCompiled P q log number (option_map (λ steps. map step_of steps.items) found)) where
  pub steps_told : (steps : Vec MadeStep) → found ≡ Some steps → IsCompiled P q log number (map step_of steps.items)
  steps_told steps e = subst (λ (o : Option (Vec MadeStep)). AreCompiled P q log number (option_map (λ steps. map step_of steps.items) o)) e h

  pub no_steps_told : found ≡ None → (steps : List Step) → IsCompiled P q log number steps → ⊥
  no_steps_told e = subst (λ (o : Option (Vec MadeStep)). AreCompiled P q log number (option_map (λ steps. map step_of steps.items) o)) e h
