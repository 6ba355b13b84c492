use Rattle.std.proofs.Common.{inl, map}
use Rattle.pi_tree.specs.Protocols.{protocol_of}
use Rattle.protocol_loading.proofs.Files.{of_file}
use Rattle.cert_text.specs.Seen.{shared_claim_of}
use Rattle.call_outcomes.specs.SeenOutcome.{outcome_of}
use Rattle.verifier_cli.specs.Checking.{ChecksReport, MakesClaims}
use Rattle.verifier_cli.specs.ReportReading.{IsNoReport}
use Rattle.verifier_cli.proofs.Checking.{ReportLaws, claims_check, no_report_checks}
use Rattle.verifier_cli.proofs.Files.{if_read}
use Rattle.verifier_cli.proofs.Limits.{short_queries}
use Rattle.verifier_cli.proofs.check.check_report.Goals as goal

pub returns-in-Err-clause-checked : goal.returns-in-Err-clause-checked
returns-in-Err-clause-checked g c =
    let P = protocol_of c.args.protocol.now in
    let short = short_queries P c.requires.limits in
    let laws : ReportLaws P = record {
      refused = λ bytes claims place code is spells. (c.the_first_fault_of_a_report_in_either_format_is_told.ensures.spelled P bytes claims c.requires.names short spells).none place code is.stands;
      first = c.first_faults_are_one.ensures.report P;
      one = λ bytes claims others. c.reports_are_one.ensures P bytes claims others c.requires.names;
    } in
    let outcome = outcome_of c.in-Err.outcome in
    if_read _ _ _ _ (λ bytes. IsNoReport P bytes outcome) (λ bytes. ChecksReport P bytes outcome) (λ bytes is. no_report_checks P laws bytes outcome is) c.in-Err.ensures.unread

pub returns-in-Ok-clause-checked : goal.returns-in-Ok-clause-checked
returns-in-Ok-clause-checked g c =
    let P = protocol_of c.args.protocol.now in
    let short = short_queries P c.requires.limits in
    let laws : ReportLaws P = record {
      refused = λ bytes claims place code is spells. (c.the_first_fault_of_a_report_in_either_format_is_told.ensures.spelled P bytes claims c.requires.names short spells).none place code is.stands;
      first = c.first_faults_are_one.ensures.report P;
      one = λ bytes claims others. c.reports_are_one.ensures P bytes claims others c.requires.names;
    } in
    let outcome = outcome_of c.checked.result in
    let claims = map shared_claim_of c.in-Ok.claims in
    inl (of_file _ _ _ (λ bytes. MakesClaims P bytes claims) (λ bytes. ChecksReport P bytes outcome) (λ bytes made. claims_check P laws bytes claims outcome c.checked.ensures made) c.in-Ok.ensures.made)
