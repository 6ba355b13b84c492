use Rattle.command_words.specs.Request.{Verify}
use Rattle.pi_tree.specs.Protocols.{protocol_of}
use Rattle.verifier_cli.proofs.Comes.{unread_comes, verified_comes}
use Rattle.verifier_cli.proofs.Verifying.{Laws, Soundness, OneAttack, unread_words}
use Rattle.verifier_cli.proofs.verify.verify_file.Goals as goal

pub returns-in-Err-clause-words : goal.returns-in-Err-clause-words
returns-in-Err-clause-words g c = unread_words _ _ _ c.in-Err.ensures.unread

pub returns-in-Err-clause-comes : goal.returns-in-Err-clause-comes
returns-in-Err-clause-comes g c =
    let laws : Laws = record { one_protocol = c.one_protocol.ensures; one_refusal = c.one_refusal.ensures; never_both = c.never_both.ensures } in
    λ format. unread_comes laws (Verify c.args.file.now c.args.budget format) tt _ _ c.in-Err.ensures.unread

pub returns-in-Ok-clause-comes : goal.returns-in-Ok-clause-comes
returns-in-Ok-clause-comes g c =
    let laws : Laws = record { one_protocol = c.one_protocol.ensures; one_refusal = c.one_refusal.ensures; never_both = c.never_both.ensures } in
    let sound : Soundness = record { proper = c.queries_of_read_protocols.ensures.proper; hold = c.proved_queries_hold.ensures } in
    let one : OneAttack = record { one_verdict = c.one_verdict.ensures; one_answer = c.one_answer.ensures } in
    λ format. verified_comes sound one laws _ _ format _ (protocol_of c.in-Ok.protocol) _ c.decided-outcome.ensures c.in-Ok.ensures.spelled
