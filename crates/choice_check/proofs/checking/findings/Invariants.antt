-- What is found so far, and how many certificates there were.
use Rattle.std.proofs.Common.{◌≡◌, ◌≤◌, length}
use Rattle.pi_tree.specs.Protocols.{protocol_of}
use Rattle.choice_check.specs.Checking.{HoldWhereAccepted}
use Rattle.choice_check.proofs.Found.{AreFoundSoFar}
use Rattle.choice_check.proofs.checking.findings.Given as goal

abbrev pub invariant-each : goal.invariant-each
invariant-each l = record {
  count : l.number ≡ length l.yielded;
  each : l.number ≡ length l.items.items;
  certificates : l.before ≤ l.number;
  found : AreFoundSoFar (protocol_of l.protocol) l.said l.fn.claims l.number l.before l.items.items;
  holds : HoldWhereAccepted (protocol_of l.protocol).queries (protocol_of l.protocol) l.items.items;
}
