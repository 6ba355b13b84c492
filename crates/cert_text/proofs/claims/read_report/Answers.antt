use Rattle.std.proofs.Common.{◌∙◌, sym, subst, rules}
use Rattle.pi_tree.specs.Protocols.{protocol_of}
use Rattle.spec_node_reading.specs.Reports.{SpellsReport}
use Rattle.cert_text.proofs.claims.read_report.Goals as goal

pub returns-clause-spelled : goal.returns-clause-spelled
returns-clause-spelled c = subst (λ claims. SpellsReport (protocol_of c.args.protocol.now) c.args.bytes.now claims) (sym c.in_ok-claims.ensures) c.in_ok-shared.ensures.spelled

pub returns-clause-accepts : goal.returns-clause-accepts
returns-clause-accepts c = λ claims names short is. c.in_ok-claims.ensures ∙ c.in_ok-shared.ensures.accepts claims names short is

pub returns-in_err-shared-clause-first_fault : goal.returns-in_err-shared-clause-first_fault
returns-in_err-shared-clause-first_fault c = λ place code names is.
    let fault = c.in_err-shared.ensures.first_fault place code names is in search (rules, fault)
