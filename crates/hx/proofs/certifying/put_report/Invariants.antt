-- What is told of the first queries is put, so many.
use Rattle.std.proofs.Common.{◌≡◌, ◌++◌}
use Rattle.pi_tree.specs.Protocols.{protocol_of}
use Rattle.hx.specs.CertificateText.{told_lines}
use Rattle.hx.proofs.certifying.put_report.Given as goal

abbrev pub invariant-each : goal.invariant-each
invariant-each l = l.out.items ≡ l.initial.out.items ++ told_lines (protocol_of l.claim.protocol.now) l.claim.query l.claim.format l.claim.cert.now l.index
