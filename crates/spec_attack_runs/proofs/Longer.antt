-- The compilation takes no step back: what it gives has no fewer steps than there were.
use Rattle.std.proofs.Common.{ℕ, ◌≤◌, List, [], ◌∷◌, ◌++◌, length, IfSome, length-append, arith}
use Rattle.spec_calculus.specs.Syntax.{Process, Protocol}
use Rattle.spec_calculus.specs.Runs.{Configuration, Step}
use Rattle.spec_calculus.proofs.Items.{if_some-map}
use Rattle.spec_terms.specs.Term.{Term}
use Rattle.spec_attack_runs.specs.Source.{Source}
use Rattle.spec_attack_runs.specs.Compiling.{State, limited_step, stepped, take_step, placed}
use Rattle.spec_attack_runs.specs.Walking.{Walk, walked}
use Rattle.spec_attack_runs.specs.Attack.{all_compiled}
use Rattle.spec_attack_runs.proofs.Keeping.{take_step_keeps, placed_keeps, walked_keeps, all_compiled_keeps}

abbrev pub HasSteps : ℕ → State → Type 0
HasSteps count st = count ≤ length st.steps

stepped_longer : (P : Protocol) (count : ℕ) (step : Step) (st : State) → HasSteps count st → IfSome (stepped P step st) (HasSteps count)
stepped_longer P count step st h = if_some-map (HasSteps count) (λ c. record st { configuration = c; steps = st.steps ++ step ∷ [] }) (limited_step P st.configuration step)
    (λ c is. omega (arith, h, length-append st.steps (step ∷ [])))

module _ (P : Protocol) (count : ℕ) where
  abbrev Q : Configuration → List Step → Type 0
  Q c steps = count ≤ length steps

  pub take_step_longer : (step : Step) (st : State) → HasSteps count st → IfSome (take_step P step st) (HasSteps count)
  take_step_longer step st h = take_step_keeps P Q (stepped_longer P count) step st h

  pub placed_longer : (t : Term) (st : State) → HasSteps count st → IfSome (placed P t st) (λ x. HasSteps count x.1)
  placed_longer t st h = placed_keeps P Q (stepped_longer P count) t st h

  pub walked_longer : (process : Process) (point : ℕ) (walk : Walk) (st : State) → HasSteps count st → IfSome (walked P process point walk st) (HasSteps count)
  walked_longer process point walk st h = walked_keeps P Q (stepped_longer P count) process point walk st h

  pub all_compiled_longer : (instances : List Source) (st : State) → HasSteps count st → IfSome (all_compiled P instances st) (HasSteps count)
  all_compiled_longer instances st h = all_compiled_keeps P Q (stepped_longer P count) instances st h
