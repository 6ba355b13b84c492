use Rattle.std.proofs.Common.{◌≡◌, map}
use Rattle.clause_form.specs.Facts.{fact_of}
use Rattle.clause_form.proofs.flat.concluding.Given as goal

abbrev pub invariant-loop-concl : goal.invariant-loop-concl
invariant-loop-concl l = l.items.items ≡ map (λ f. record { hypotheses = l.hyps; diffs = l.diffs; conclusion = fact_of f }) l.yielded
