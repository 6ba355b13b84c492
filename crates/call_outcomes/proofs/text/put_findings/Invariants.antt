-- The lines so far, and those of the queries that are left, are the lines of all.
use Rattle.std.proofs.Common.{◌≡◌, ◌+◌, ◌++◌, drop}
use Rattle.call_outcomes.specs.Text.{finding_lines}
use Rattle.call_outcomes.proofs.text.put_findings.Given as goal

abbrev pub invariant-each : goal.invariant-each
invariant-each l = l.out.items ++ finding_lines (l.place + 1) (drop l.place l.finding-items) ≡ l.initial.out.items ++ finding_lines 1 l.finding-items
