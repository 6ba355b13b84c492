-- What is done behind a part of the compilation takes no step back, so that it is stuck where that part is.
use Rattle.std.proofs.Common.{◌≡◌, ℕ, ◌<◌, ◌≤◌, List, ◌∷◌, ◌++◌, length, Option, Some, IfSome, option_and_then, sym, ◌∙◌, arith}
use Rattle.spec_trees.specs.Tree.{Trees}
use Rattle.spec_calculus.specs.Syntax.{Protocol}
use Rattle.spec_calculus.specs.Runs.{Configuration, Step}
use Rattle.spec_calculus.proofs.Items.{of_then, if_some-is, if_some-of}
use Rattle.spec_terms.specs.Term.{Sym}
use Rattle.spec_attack_runs.specs.Compiling.{State, stepped, all_stepped, take_step, made_known, row_placed}
use Rattle.spec_attack_runs.specs.Attack.{most_steps}
use Rattle.spec_attack_runs.proofs.Keeping.{all_stepped_keeps, take_step_keeps, made_known_keeps, row_placed_keeps}
use Rattle.attack_state.proofs.Outcomes.{NoFewer, stuck_then, stuck_behind}
use Rattle.attack_state.proofs.Stepping.{stepped-length, all_stepped-append}

module _ (P : Protocol) (count : ℕ) where
  abbrev Q : Configuration → List Step → Type 0
  Q c steps = count ≤ length steps

  pub one_longer : (step : Step) (st : State) → Q st.configuration st.steps → IfSome (stepped P step st) (λ next. Q next.configuration next.steps)
  one_longer step st h = if_some-of (λ (n : State). count ≤ length n.steps) (stepped P step st) (λ n is. let long = stepped-length P step st n is in omega (arith, h, long))

  pub all_stepped_from : (steps : List Step) (st : State) → count ≤ length st.steps → IfSome (all_stepped P steps st) (λ n. count ≤ length n.steps)
  all_stepped_from steps st h = all_stepped_keeps P Q one_longer steps st h

  pub take_step_from : (step : Step) (st : State) → count ≤ length st.steps → IfSome (take_step P step st) (λ n. count ≤ length n.steps)
  take_step_from step st h = take_step_keeps P Q one_longer step st h

  pub made_known_from : (step : Step) (st : State) → count ≤ length st.steps → IfSome (made_known P step st) (λ x. count ≤ length x.1.steps)
  made_known_from step st h = made_known_keeps P Q one_longer step st h

  pub row_placed_from : (ts : Trees ℕ Sym) (st : State) → count ≤ length st.steps → IfSome (row_placed P ts st) (λ x. count ≤ length x.1.steps)
  row_placed_from ts st h = row_placed_keeps P Q one_longer ts st h

module _ (P : Protocol) where
  pub no_fewer_parts : (f : State → List Step) → NoFewer (λ s. all_stepped P (f s) s)
  no_fewer_parts f = λ s. all_stepped_from P (length s.steps) (f s) s (omega arith)

  -- steps of which one is stuck
  pub stuck_within : (xs ys : List Step) (x : Step) (st s : State) → all_stepped P xs st ≡ Some s → ((n : State) → stepped P x s ≡ Some n → most_steps < length n.steps)
      → (next : State) → all_stepped P (xs ++ x ∷ ys) st ≡ Some next → most_steps < length next.steps
  stuck_within xs ys x st s e stuck next h =
      stuck_behind (all_stepped P (x ∷ ys)) (all_stepped P xs st) s e (stuck_then (all_stepped P ys) (stepped P x s) (no_fewer_parts (λ n. ys)) stuck) next (sym (all_stepped-append P xs (x ∷ ys) st) ∙ h)

  -- a place, or places, that come of too many steps, and what is done with them
  pub stuck_placing : {A B : Type 0} (o : Option (A × State)) (f : A × State → Option (B × State)) → ((x : A × State) → IfSome (f x) (λ y. length x.1.steps ≤ length y.1.steps))
      → ((found : A) (s : State) → o ≡ Some (found, s) → most_steps < length s.steps) → (found : B) (next : State) → option_and_then f o ≡ Some (found, next) → most_steps < length next.steps
  stuck_placing {A} {B} o f longer stuck found next e =
      let parts = of_then f o (found, next) e in
      let first = stuck parts.0.0 parts.0.1 parts.1 in
      let second = if_some-is (λ (y : B × State). length parts.0.1.steps ≤ length y.1.steps) (f parts.0) (found, next) (longer parts.0) parts.2 in omega (arith, first, second)

  pub makes_behind : {A : Type 0} (step : A → Step) (x : A × State) → IfSome (made_known P (step x.0) x.1) (λ y. length x.1.steps ≤ length y.1.steps)
  makes_behind step x = made_known_from P (length x.1.steps) (step x.0) x.1 (omega arith)
