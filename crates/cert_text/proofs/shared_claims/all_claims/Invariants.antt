-- the claims so far are read, and reading goes on
use Rattle.std.proofs.Common.{[], ◌+◌, ◌-◌, length, map}
use Rattle.pi_tree.specs.Protocols.{protocol_of}
use Rattle.spec_certificate_text.specs.Reports.{claims_by}
use Rattle.spec_node_reading.specs.Reading.{read_in_both}
use Rattle.fact_reader.specs.Reads.{left_of}
use Rattle.cert_text.specs.Seen.{shared_claim_of}
use Rattle.cert_text.proofs.Claimed.{AreClaimed}
use Rattle.cert_text.proofs.shared_claims.all_claims.Given as goal

abbrev pub invariant-loop-query : goal.invariant-loop-query
invariant-loop-query l =
    AreClaimed (read_in_both (protocol_of l.names.protocol.now)) (claims_by (read_in_both (protocol_of l.names.protocol.now)) (length (protocol_of l.names.protocol.now).queries) 1 [] (left_of l.fn.cursor) l.fn.cursor.at)
    (length (protocol_of l.names.protocol.now).queries - l.query) (l.query + 1) (left_of l.cursor) l.cursor.at (map shared_claim_of l.items.items)
