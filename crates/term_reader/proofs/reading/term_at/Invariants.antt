use Rattle.std.proofs.Common.{◌≡◌, drop}
use Rattle.pi_tree.specs.Protocols.{protocol_of}
use Rattle.spec_certificate_text.specs.Runs.{read_on, read_tree}
use Rattle.term_reader.specs.Seen.{reading_of}
use Rattle.term_reader.proofs.reading.term_at.Given as goal

abbrev pub invariant-loop-place : goal.invariant-loop-place
invariant-loop-place l = read_on l.binds (protocol_of l.names.protocol.now) (drop l.place l.bytes) l.place (reading_of l.reading) ≡ read_tree l.binds (protocol_of l.names.protocol.now) (drop l.fn.at l.bytes) l.fn.at
