use Rattle.std.proofs.Common.{◌≡◌}
use Rattle.std.proofs.lemmas.Result.{IfOk-weaker}
use Rattle.pi_tree.specs.Queries.{query_of}
use Rattle.pi_tree.specs.Protocols.{protocol_of}
use Rattle.protocol_text.specs.Questions.{any_event, never}
use Rattle.protocol_text.specs.Asking.{IsQuestion}
use Rattle.protocol_text.proofs.SubjectLists.{event_there, event_question, query_there, left_question, no_secret, no_secret_name}
use Rattle.protocol_text.proofs.questions.question.Goals as goal

pub arity-requires-clause-there : goal.arity-requires-clause-there
arity-requires-clause-there c = event_there (protocol_of c.args.protocol.now) c.args.subject c.in-Event.event c.in-Event.is c.requires.there

pub returns-in-Event : goal.returns-in-Event
returns-in-Event c =
    let P = protocol_of c.args.protocol.now in
    IfOk-weaker c.never_any.result (λ q. query_of q ≡ never (any_event c.in-Event.event c.arity.result)) (λ q. IsQuestion P c.args.subject (query_of q))
    (λ q is. event_question P c.args.subject c.in-Event.event c.arity.result (query_of q) c.in-Event.is c.requires.there c.arity.ensures is) c.never_any.ensures

pub query-requires : goal.query-requires
query-requires c = record { there = query_there (protocol_of c.args.protocol.now) c.args.subject c.in-Left.number c.in-Left.is c.requires.there }

pub returns-in_ok-copied-in-Corr : goal.returns-in_ok-copied-in-Corr
returns-in_ok-copied-in-Corr c =
    left_question (protocol_of c.args.protocol.now) c.args.subject c.in-Left.number c.query.result.now (query_of c.never.result) c.in-Corr.left c.in-Corr.alternatives c.in-Left.is c.requires.there c.query.ensures c.in-Corr.is c.in_ok-copied-in-Corr.copied c.in_ok-copied-in-Corr.ensures c.never.ensures

pub unreachable-requires : goal.unreachable-requires
unreachable-requires c = no_secret (protocol_of c.args.protocol.now) c.args.subject c.in-Left.number c.query.result.now c.in-Secret.field-0 c.in-Secret.field-1 c.in-Left.is c.requires.there c.query.ensures c.in-Secret.is

pub unreachable-requires-in-SecretNew : goal.unreachable-requires-in-SecretNew
unreachable-requires-in-SecretNew c = no_secret_name (protocol_of c.args.protocol.now) c.args.subject c.in-Left.number c.query.result.now c.in-SecretNew.field-0 c.in-SecretNew.field-1 c.in-Left.is c.requires.there c.query.ensures c.in-SecretNew.is
