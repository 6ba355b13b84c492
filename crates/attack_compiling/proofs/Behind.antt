-- What a thread does behind a part of the compilation takes no step back, so that it is stuck where that part is.
use Rattle.std.proofs.Common.{◌≡◌, ℕ, ◌<◌, ◌≤◌, List, length, Option, Some, IfSome, option_and_then, arith}
use Rattle.spec_calculus.specs.Syntax.{Protocol}
use Rattle.spec_calculus.specs.Runs.{Configuration, Step}
use Rattle.spec_calculus.proofs.Items.{of_then, if_some-is}
use Rattle.spec_attack_runs.specs.Compiling.{State}
use Rattle.spec_attack_runs.specs.Walking.{Walk, acts_at, begin}
use Rattle.spec_attack_runs.specs.Attack.{most_steps}
use Rattle.spec_attack_runs.proofs.Keeping.{acts_at_keeps, begin_keeps}
use Rattle.attack_state.proofs.Behind.{one_longer}
use Rattle.attack_state.proofs.Outcomes.{NoFewer}

module _ (P : Protocol) (count : ℕ) where
  abbrev Q : Configuration → List Step → Type 0
  Q c steps = count ≤ length steps

  pub acts_at_from : (point : ℕ) (walk : Walk) (step : Step) (st : State) → count ≤ length st.steps → IfSome (acts_at P point walk step st) (λ n. count ≤ length n.steps)
  acts_at_from point walk step st h = acts_at_keeps P Q (one_longer P count) point walk step st h

  pub begin_from : (left : ℕ) (st : State) → count ≤ length st.steps → IfSome (begin P left st) (λ n. count ≤ length n.steps)
  begin_from left st h = begin_keeps P Q (one_longer P count) left st h

module _ (P : Protocol) where
  pub no_fewer_begin : (left : ℕ) → NoFewer (begin P left)
  no_fewer_begin left = λ s. begin_from P (length s.steps) left s (omega arith)

  pub stuck_with : {A : Type 0} (o : Option (A × State)) (f : A × State → Option State) → ((x : A × State) → IfSome (f x) (λ n. length x.1.steps ≤ length n.steps))
      → ((found : A) (s : State) → o ≡ Some (found, s) → most_steps < length s.steps) → (next : State) → option_and_then f o ≡ Some next → most_steps < length next.steps
  stuck_with o f longer stuck next e =
      let parts = of_then f o next e in
      let first = stuck parts.0.0 parts.0.1 parts.1 in
      let second = if_some-is (λ (n : State). length parts.0.1.steps ≤ length n.steps) (f parts.0) next (longer parts.0) parts.2 in omega (arith, first, second)

  pub acts_behind : {A : Type 0} (point : ℕ) (walk : Walk) (step : A → Step) (x : A × State) → IfSome (acts_at P point walk (step x.0) x.1) (λ n. length x.1.steps ≤ length n.steps)
  acts_behind point walk step x = acts_at_from P (length x.1.steps) point walk (step x.0) x.1 (omega arith)
