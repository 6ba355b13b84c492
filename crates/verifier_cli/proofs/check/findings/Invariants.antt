-- What is found so far is what is found of the claims so far.
use Rattle.std.proofs.Common.{◌≡◌, length, map, take}
use Rattle.pi_tree.specs.Protocols.{protocol_of}
use Rattle.cert_text.specs.Seen.{shared_claim_of}
use Rattle.verifier_cli.specs.Checking.{AreFindingsOf}
use Rattle.verifier_cli.proofs.check.findings.Given as goal

abbrev pub invariant-each : goal.invariant-each
invariant-each l = record {
  count : l.number ≡ length l.yielded;
  found : AreFindingsOf (protocol_of l.protocol) (take l.number l.protocol.queries) (map shared_claim_of (take l.number l.fn.claims)) l.items.items;
}
