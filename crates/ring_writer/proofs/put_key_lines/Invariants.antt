use Rattle.std.proofs.Common.{◌≡◌, ◌++◌, ◌-◌, []}
use Rattle.spec_ring_text.specs.Text.{key_lines}
use Rattle.ring_writer.proofs.put_key_lines.Given as goal

abbrev pub invariant-each : goal.invariant-each
invariant-each l = l.out.items ≡ l.initial.out.items ++ key_lines 1 (l.number - 1) []
