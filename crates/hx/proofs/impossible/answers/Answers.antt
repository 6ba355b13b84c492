use Rattle.std.proofs.lemmas.Result.{IfOk-weaker}
use Rattle.pi_tree.specs.Protocols.{protocol_of}
use Rattle.query_verify.specs.Told.{AnswerQueries}
use Rattle.hx.specs.Noted.{AreAnswered}
use Rattle.hx.proofs.Noting.{answered}
use Rattle.hx.proofs.impossible.answers.Goals as goal

pub decided-told-requires-clause-readable : goal.decided-told-requires-clause-readable
decided-told-requires-clause-readable c =
    let asked = c.in_ok-asked.ensures in
    record { limits = asked.limits; rules = asked.rules; scoped = asked.scoped; queries = asked.proper }

pub returns : goal.returns
returns c =
    let P = protocol_of c.args.protocol.now in
    let Q = protocol_of c.in_ok-asked.asked in
    IfOk-weaker c.decided-told.result (λ told. AnswerQueries Q c.args.budget Q.queries told) (λ told. AreAnswered P c.args.budget c.args.subjects.now told)
    (λ told are. answered P Q c.args.budget c.args.subjects.now told c.in_ok-asked.ensures are) c.decided-told.ensures
