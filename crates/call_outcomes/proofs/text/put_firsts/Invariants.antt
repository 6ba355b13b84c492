-- The lines so far, and those of the queries that are left, are the lines of all.
use Rattle.std.proofs.Common.{◌≡◌, ◌+◌, ◌++◌, drop}
use Rattle.call_outcomes.specs.Text.{first_lines}
use Rattle.call_outcomes.proofs.text.put_firsts.Given as goal

abbrev pub invariant-each : goal.invariant-each
invariant-each l = l.out.items ++ first_lines (l.place + 1) (drop l.place l.first-items) ≡ l.initial.out.items ++ first_lines 1 l.first-items
