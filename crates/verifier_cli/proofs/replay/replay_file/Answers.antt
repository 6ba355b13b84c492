use Rattle.command_words.specs.Request.{Replay}
use Rattle.pi_tree.specs.Protocols.{protocol_of}
use Rattle.verifier_cli.proofs.Comes.{unread_comes, replayed_comes}
use Rattle.verifier_cli.proofs.Replaying.{run_words}
use Rattle.verifier_cli.proofs.Verifying.{Laws, unread_words}
use Rattle.verifier_cli.proofs.replay.replay_file.Goals as goal

pub returns-in-Err-clause-words : goal.returns-in-Err-clause-words
returns-in-Err-clause-words g c = unread_words _ _ _ c.in-Err.ensures.unread

pub returns-in-Err-clause-comes : goal.returns-in-Err-clause-comes
returns-in-Err-clause-comes g c =
    let laws : Laws = record { one_protocol = c.one_protocol.ensures; one_refusal = c.one_refusal.ensures; never_both = c.never_both.ensures } in
    unread_comes laws (Replay c.args.file.now c.args.run.now) tt _ _ c.in-Err.ensures.unread

pub returns-in-Ok-clause-words : goal.returns-in-Ok-clause-words
returns-in-Ok-clause-words g c = run_words _ _ _ (protocol_of c.in-Ok.protocol) _ c.replay_run-outcome.ensures.shown

pub returns-in-Ok-clause-comes : goal.returns-in-Ok-clause-comes
returns-in-Ok-clause-comes g c =
    let laws : Laws = record { one_protocol = c.one_protocol.ensures; one_refusal = c.one_refusal.ensures; never_both = c.never_both.ensures } in
    replayed_comes laws g.F.Files.held g.F.Files.faults g.F.Files.loads c.args.files.now c.load_protocol.new.files c.replay_run-outcome.new.files
    c.load_protocol.ensures.held_stays c.load_protocol.ensures.read_faults_rise c.args.file.now c.args.run.now (protocol_of c.in-Ok.protocol) _
    c.in-Ok.ensures.spelled c.replay_run-outcome.ensures.shown
