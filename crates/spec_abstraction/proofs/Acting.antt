-- The thread that acts in a step, and what a trace keeps.
use Rattle.std.proofs.Common.{◌≡◌, ℕ, Option, Some, None, refl}
use Rattle.std.specs.Prelude.{option_and_then}
use Rattle.spec_calculus.specs.Syntax.{Process, Protocol}
use Rattle.spec_calculus.specs.Points.{numbered, nodes}
use Rattle.spec_calculus.specs.Values.{Value, Environment}
use Rattle.spec_calculus.specs.Runs.{Thread, At, Ended, Configuration, acts, acting}
use Rattle.spec_abstraction.specs.Trace.{Trace, hears}

-- the thread that acts: where it stands, in which environment, and what the action gives
pub record Acted {A : Type 0} (P : Protocol) (c : Configuration) (number : ℕ) (action : ℕ → Environment → Process → Option A) (x : A) : Type 0 where
  pub point : ℕ
  pub environment : Environment
  pub process : Process
  pub thread : numbered c.threads number ≡ Some (At point environment)
  pub stands : numbered (nodes P.main) point ≡ Some process
  pub is : action point environment process ≡ Some x

pub acted : {A : Type 0} (P : Protocol) (c : Configuration) (number : ℕ) (action : ℕ → Environment → Process → Option A) (x : A) → acting P c number action ≡ Some x → Acted P c number action x
acted {A} P c number action x e = go (numbered c.threads number) refl e
  where
    inner : (point : ℕ) (environment : Environment) → numbered c.threads number ≡ Some (At point environment) → (o : Option Process) → numbered (nodes P.main) point ≡ o → option_and_then (action point environment) o ≡ Some x → Acted P c number action x
    inner point environment f None g h = cc
    inner point environment f (Some process) g h = record { point = point; environment = environment; process = process; thread = f; stands = g; is = h }

    go : (o : Option Thread) → numbered c.threads number ≡ o → option_and_then (λ thread. acts P thread action) o ≡ Some x → Acted P c number action x
    go None f h = cc
    go (Some Ended) f h = cc
    go (Some (At point environment)) f h = inner point environment f (numbered (nodes P.main) point) refl h

-- who receives makes no name
pub hears_made : (t : Trace) (n : ℕ) (o : Option Value) → (hears t n o).made ≡ t.made
hears_made t n None = refl
hears_made t n (Some v) = refl
