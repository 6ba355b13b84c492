-- Names that different steps make differ: a later one has a greater number.
use Rattle.std.proofs.Common.{◌≡◌, ◌<◌, ◌≤◌, List, Some, IfSome, arith}
use Rattle.spec_calculus.specs.Syntax.{Protocol}
use Rattle.spec_calculus.specs.Runs.{Configuration, Step, after_step, after_steps}
use Rattle.spec_calculus.specs.Standing.{names_made}
use Rattle.spec_calculus.proofs.Items.{if_some-is, if_some-of}
use Rattle.spec_calculus.proofs.Steps.{steps_keep}
use Rattle.spec_calculus.proofs.Growth.{numbers_are_taken}

numbers_grow : (P : Protocol) (c d : Configuration) (steps : List Step) → after_steps P c steps ≡ Some d → c.next ≤ d.next
numbers_grow P c d steps h = if_some-is (λ e. c.next ≤ e.next) (after_steps P c steps) d (steps_keep P (λ e. c.next ≤ e.next) kept steps c (omega arith)) h
  where
    kept : (e : Configuration) (step : Step) → c.next ≤ e.next → IfSome (after_step P e step) (λ f. c.next ≤ f.next)
    kept e step below = if_some-of (λ f. c.next ≤ f.next) (after_step P e step) (λ f is. omega (arith, below, numbers_are_taken P e f step is))

pub later_names_differ : (P : Protocol) (c d e : Configuration) (step : Step) (steps : List Step) → names_made step ≡ 1 → after_step P c step ≡ Some d → after_steps P d steps ≡ Some e → c.next < e.next
later_names_differ P c d e step steps one first later = omega (arith, one, numbers_are_taken P c d step first, numbers_grow P d e steps later)
