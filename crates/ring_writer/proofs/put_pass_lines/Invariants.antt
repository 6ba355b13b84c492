use Rattle.std.proofs.Common.{◌≡◌, ◌++◌, ◌-◌, []}
use Rattle.spec_ring_text.specs.Text.{pass_lines}
use Rattle.ring_writer.proofs.put_pass_lines.Given as goal

abbrev pub invariant-each : goal.invariant-each
invariant-each l = l.out.items ≡ l.initial.out.items ++ pass_lines l.keys 1 (l.number - 1) []
