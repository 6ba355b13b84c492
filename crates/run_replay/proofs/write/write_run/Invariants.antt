-- The bytes so far, and the lines of the steps that are left, are the text of all.
use Rattle.std.proofs.Common.{◌≡◌, ◌++◌, drop, map}
use Rattle.pi_model.specs.Steps.{step_of}
use Rattle.spec_run_text.specs.Text.{text_of}
use Rattle.run_replay.proofs.write.write_run.Given as goal

abbrev pub invariant-each : goal.invariant-each
invariant-each l = l.out.items ++ text_of (map step_of (drop l.step-index l.steps)) ≡ text_of (map step_of l.steps)
