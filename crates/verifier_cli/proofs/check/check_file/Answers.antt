use Rattle.command_words.specs.Request.{Check}
use Rattle.pi_tree.specs.Protocols.{protocol_of}
use Rattle.verifier_cli.proofs.Checking.{Acceptance, report_words}
use Rattle.verifier_cli.proofs.Comes.{unread_comes, checked_comes}
use Rattle.verifier_cli.proofs.Verifying.{Laws, unread_words}
use Rattle.verifier_cli.proofs.check.check_file.Goals as goal

pub returns-in-Err-clause-words : goal.returns-in-Err-clause-words
returns-in-Err-clause-words g c = unread_words _ _ _ c.in-Err.ensures.unread

pub returns-in-Err-clause-comes : goal.returns-in-Err-clause-comes
returns-in-Err-clause-comes g c =
    let laws : Laws = record { one_protocol = c.one_protocol.ensures; one_refusal = c.one_refusal.ensures; never_both = c.never_both.ensures } in
    unread_comes laws (Check c.args.file.now c.args.report.now) tt _ _ c.in-Err.ensures.unread

pub returns-in-Ok-clause-words : goal.returns-in-Ok-clause-words
returns-in-Ok-clause-words g c = report_words _ _ _ (protocol_of c.in-Ok.protocol) _ c.check_report-outcome.ensures.checked

pub returns-in-Ok-clause-comes : goal.returns-in-Ok-clause-comes
returns-in-Ok-clause-comes g c =
    let laws : Laws = record { one_protocol = c.one_protocol.ensures; one_refusal = c.one_refusal.ensures; never_both = c.never_both.ensures } in
    let sound : Acceptance = record { proper = c.queries_of_read_protocols.ensures.proper; hold = c.accepted_queries_hold.ensures } in
    checked_comes sound laws g.F.Files.held g.F.Files.faults g.F.Files.loads c.args.files.now c.load_protocol.new.files c.check_report-outcome.new.files
    c.load_protocol.ensures.held_stays c.load_protocol.ensures.read_faults_rise c.args.file.now c.args.report.now (protocol_of c.in-Ok.protocol) _
    c.in-Ok.ensures.spelled c.check_report-outcome.ensures.checked
