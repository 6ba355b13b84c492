-- The lines so far, and those of the steps that are left, are the lines of all.
use Rattle.std.proofs.Common.{◌≡◌, ◌++◌, drop, map}
use Rattle.pi_model.specs.Steps.{step_of}
use Rattle.hx.specs.AttackText.{step_lines}
use Rattle.hx.proofs.attack_text.put_steps.Given as goal

abbrev pub invariant-each : goal.invariant-each
invariant-each l = l.out.items ++ step_lines (map step_of (drop l.step-index l.steps)) ≡ l.initial.out.items ++ step_lines (map step_of l.steps)
