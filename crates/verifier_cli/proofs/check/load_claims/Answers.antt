-- What was read is what the file spells.
use Rattle.std.proofs.Common.{◌≡◌, ◌∙◌, ◌≤◌, ℕ, List, length, map, inl, sym, ap, subst, arith}
use Rattle.std.proofs.lemmas.List.{length-map}
use Rattle.spec_calculus.specs.Bounds.{most_report_bytes}
use Rattle.spec_node_reading.specs.Reports.{SpellsReport, reports_of_both}
use Rattle.pi_tree.specs.Protocols.{protocol_of}
use Rattle.protocol_loading.specs.Outside.{outside}
use Rattle.protocol_loading.proofs.Files.{of_all}
use Rattle.fact_reader.specs.Errors.{refusal_of}
use Rattle.cert_text.specs.Seen.{shared_claim_of}
use Rattle.cert_text.specs.Refused.{IsFirstOf}
use Rattle.call_outcomes.specs.Outcome.{Outcome}
use Rattle.call_outcomes.specs.SeenOutcome.{outcome_of}
use Rattle.verifier_cli.specs.Checking.{MakesClaims}
use Rattle.verifier_cli.specs.ReportReading.{report_not_read, IsNoReport, IsUnreadReport}
use Rattle.verifier_cli.proofs.Checking.{fault_unread}
use Rattle.verifier_cli.proofs.Files.{no_report}
use Rattle.verifier_cli.proofs.Limits.{few_names}
use Rattle.verifier_cli.proofs.check.load_claims.Goals as goal

pub read_shared_report-requires : goal.read_shared_report-requires
read_shared_report-requires g c = few_names (protocol_of c.args.protocol.now) c.requires.limits

pub returns-in-Ok-read_shared_report-clause-each : goal.returns-in-Ok-read_shared_report-clause-each
returns-in-Ok-read_shared_report-clause-each g c = sym (length-map c.in-Ok-read_shared_report.claims shared_claim_of) ∙ c.in-Ok-read_shared_report.ensures.spelled.all

pub returns-in-Ok-read_shared_report-clause-made : goal.returns-in-Ok-read_shared_report-clause-made
returns-in-Ok-read_shared_report-clause-made g c =
    let P = protocol_of c.args.protocol.now in
    let claims = map shared_claim_of c.in-Ok-read_shared_report.claims in
    let same = ap (λ (bytes : List ℕ). length bytes) c.deref.ensures.value in
    let fits : length c.in-Ok.bytes.items ≤ most_report_bytes = omega (arith, c.in-Ok.ensures.within, c.deref.ensures.len, same) in
    of_all _ _ _ (λ bytes. MakesClaims P bytes claims) c.in-Ok.bytes.items (fits, subst (λ (bytes : List ℕ). SpellsReport P bytes claims) c.deref.ensures.value c.in-Ok-read_shared_report.ensures.spelled) c.in-Ok.ensures.loaded

pub returns-in-Err-clause-unread : goal.returns-in-Err-clause-unread
returns-in-Err-clause-unread g c =
    let files = outside g.F.Files.held g.F.Files.faults g.F.Files.loads c.args.files.now c.load_text.new.files in
    subst (λ (outcome : Outcome). IsUnreadReport (protocol_of c.args.protocol.now) files c.args.report.now outcome) (sym c.report_not_loaded.ensures)
    (no_report (protocol_of c.args.protocol.now) files c.args.report.now _ c.in-Err.ensures.unloaded)

pub returns-clause-unread : goal.returns-clause-unread
returns-clause-unread g c =
    let P = protocol_of c.args.protocol.now in
    let bytes = c.in-Ok.bytes.items in
    let error = c.in-Err-read_shared_report.error in
    let files = outside g.F.Files.held g.F.Files.faults g.F.Files.loads c.args.files.now c.load_text.new.files in
    let same = ap (λ (all : List ℕ). length all) c.deref.ensures.value in
    let fits : length bytes ≤ most_report_bytes = omega (arith, c.in-Ok.ensures.within, c.deref.ensures.len, same) in
    let fault : IsFirstOf (reports_of_both P) bytes 0 (refusal_of error) = subst (λ (all : List ℕ). IsFirstOf (reports_of_both P) all 0 (refusal_of error)) c.deref.ensures.value (c.in-Err-read_shared_report.ensures.refused c.requires.names) in
    let is : outcome_of c.report_not_read.result ≡ report_not_read bytes error = c.report_not_read.ensures ∙ ap (λ (all : List ℕ). report_not_read all error) c.deref-in-Err-read_shared_report.ensures.value in
    subst (λ (outcome : Outcome). IsUnreadReport P files c.args.report.now outcome) (sym is)
    (inl (of_all _ _ _ (λ all. IsNoReport P all (report_not_read bytes error)) bytes (fault_unread P bytes error fits fault) c.in-Ok.ensures.loaded))
