-- The lines so far, and those of the clauses that are left, are the lines of all.
use Rattle.std.proofs.Common.{◌≡◌, ◌++◌, map, drop, rc_value}
use Rattle.pi_tree.specs.Protocols.{protocol_of}
use Rattle.call_outcomes.specs.Text.{clause_lines}
use Rattle.call_outcomes.proofs.text.put_clauses.Given as goal

abbrev pub invariant-each : goal.invariant-each
invariant-each l =
    l.out.items ++ clause_lines (protocol_of l.protocol) (drop l.clause-index (map rc_value l.clause-items)) ≡ l.initial.out.items ++ clause_lines (protocol_of l.protocol) (map rc_value l.clause-items)
