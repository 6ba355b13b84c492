-- the lines so far are read, and reading goes on
use Rattle.std.proofs.Common.{◌≡◌, ◌-◌, []}
use Rattle.pi_tree.specs.Protocols.{protocol_of}
use Rattle.spec_certificate_text.specs.Outcomes.{lines_from}
use Rattle.spec_certificate_text.specs.Certificates.{clause_line}
use Rattle.fact_reader.specs.Reads.{left_of}
use Rattle.cert_text.proofs.Lines.{AreRead}
use Rattle.cert_text.proofs.certs.clauses.Given as goal

abbrev pub invariant-loop-round : goal.invariant-loop-round
invariant-loop-round l = record {
  read : AreRead 99 (clause_line (protocol_of l.names.protocol.now)) (lines_from 99 (clause_line (protocol_of l.names.protocol.now)) l.most [] (left_of l.fn.cursor) l.fn.cursor.at)
      (l.most - l.round) (left_of l.cursor) l.cursor.at l.found;
  same : l.cursor.bytes.now ≡ l.fn.cursor.bytes.now;
}
