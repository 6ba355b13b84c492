-- The text so far, and that of the verdicts that are left, are the text of all.
use Rattle.std.proofs.Common.{◌≡◌, ◌+◌, ◌++◌, drop}
use Rattle.pi_tree.specs.Protocols.{protocol_of}
use Rattle.call_outcomes.specs.VerdictText.{verdict_lines}
use Rattle.call_outcomes.proofs.verdicts.put_verdicts.Given as goal

abbrev pub invariant-each : goal.invariant-each
invariant-each l =
    l.out.items ++ verdict_lines l.format (l.place + 1) (drop l.place l.verdict-items) (protocol_of l.protocol) ≡ l.initial.out.items ++ verdict_lines l.format 1 l.verdict-items (protocol_of l.protocol)
