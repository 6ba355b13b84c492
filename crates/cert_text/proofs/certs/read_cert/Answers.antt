use Rattle.std.proofs.Common.{drop}
use Rattle.pi_tree.specs.Protocols.{protocol_of}
use Rattle.spec_node_reading.specs.Clauses.{certificates_of_both}
use Rattle.spec_node_reading.specs.Reading.{read_in_both}
use Rattle.fact_reader.specs.Gives.{same}
use Rattle.cert_text.proofs.Refused.{refusal_is_first, first_is_refusal}
use Rattle.cert_text.proofs.Spelled.{certificate_spelled, certificate_given}
use Rattle.cert_text.proofs.certs.read_cert.Goals as goal

pub returns-clause-spelled : goal.returns-clause-spelled
returns-clause-spelled c = certificate_spelled (protocol_of c.args.protocol.now) c.args.bytes.now c.args.at c.certificate_at.result (c.what_is_read_is_spelled.ensures.both (protocol_of c.args.protocol.now)) c.certificate_at.ensures.read

pub returns-clause-accepts : goal.returns-clause-accepts
returns-clause-accepts c = λ certificate rest names is.
    let P = protocol_of c.args.protocol.now in
    certificate_given P c.args.bytes.now c.args.at c.certificate_at.result certificate rest
    (c.texts_are_read.ensures.both P (drop c.args.at c.args.bytes.now) certificate rest c.args.at names is) c.certificate_at.ensures.read

pub returns-clause-refused : goal.returns-clause-refused
returns-clause-refused c = λ names.
    let P = protocol_of c.args.protocol.now in
    refusal_is_first same (certificates_of_both P) c.args.bytes.now c.args.at c.certificate_at.result (read_in_both P (drop c.args.at c.args.bytes.now) c.args.at)
    (λ place code e. (c.the_first_fault_of_a_certificate_in_either_format_is_told.ensures.told P names (drop c.args.at c.args.bytes.now) c.args.at place code).0 e) c.certificate_at.ensures.read

pub returns-clause-first_fault : goal.returns-clause-first_fault
returns-clause-first_fault c = λ place code names is.
    let P = protocol_of c.args.protocol.now in
    first_is_refusal same c.args.bytes.now c.certificate_at.result (read_in_both P (drop c.args.at c.args.bytes.now) c.args.at) place code
    ((c.the_first_fault_of_a_certificate_in_either_format_is_told.ensures.told P names (drop c.args.at c.args.bytes.now) c.args.at place code).1 is) c.certificate_at.ensures.read
