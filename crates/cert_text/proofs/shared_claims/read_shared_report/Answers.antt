use Rattle.pi_tree.specs.Protocols.{protocol_of}
use Rattle.spec_node_reading.specs.Reports.{read_report_in_both, reports_of_both}
use Rattle.cert_text.specs.Seen.{shared_claim_of}
use Rattle.cert_text.proofs.Refused.{report_refusal-is_first, report_first-is_refusal}
use Rattle.cert_text.proofs.Spelled.{report_spelled, report_given}
use Rattle.cert_text.proofs.shared_claims.read_shared_report.Goals as goal

pub returns-clause-spelled : goal.returns-clause-spelled
returns-clause-spelled c =
    let P = protocol_of c.args.protocol.now in
    report_spelled shared_claim_of P c.args.bytes.now c.report_claims.result (c.what_is_read_is_spelled.ensures.report P c.args.bytes.now) c.report_claims.ensures

pub returns-clause-accepts : goal.returns-clause-accepts
returns-clause-accepts c = λ claims names short is.
    let P = protocol_of c.args.protocol.now in
    report_given shared_claim_of P c.args.bytes.now c.report_claims.result claims (c.texts_are_read.ensures.report P c.args.bytes.now claims names short is) c.report_claims.ensures

pub returns-clause-refused : goal.returns-clause-refused
returns-clause-refused c = λ names.
    let P = protocol_of c.args.protocol.now in
    report_refusal-is_first shared_claim_of (reports_of_both P) c.args.bytes.now c.report_claims.result (read_report_in_both P c.args.bytes.now)
    (λ place code e. (c.the_first_fault_of_a_report_in_either_format_is_told.ensures.told P c.args.bytes.now place code names).0 e) c.report_claims.ensures

pub returns-clause-first_fault : goal.returns-clause-first_fault
returns-clause-first_fault c = λ place code names is.
    let P = protocol_of c.args.protocol.now in
    report_first-is_refusal shared_claim_of c.report_claims.result (read_report_in_both P c.args.bytes.now) place code
    ((c.the_first_fault_of_a_report_in_either_format_is_told.ensures.told P c.args.bytes.now place code names).1 is) c.report_claims.ensures
