use Rattle.std.proofs.Common.{◌≡◌}
use Rattle.std.proofs.lemmas.Result.{IfOk-weaker}
use Rattle.pi_tree.specs.Protocols.{protocol_of}
use Rattle.protocol_text.specs.Questions.{asking}
use Rattle.protocol_text.specs.Asking.{IsAsking}
use Rattle.protocol_text.proofs.Proper.{is_asking}
use Rattle.protocol_text.proofs.questions.asking_about.Goals as goal

pub returns : goal.returns
returns c =
    let P = protocol_of c.args.protocol.now in
    IfOk-weaker c.asking.result (λ asked. protocol_of asked ≡ asking P c.in_ok-queries.queries) (λ asked. IsAsking P c.args.subjects.now (protocol_of asked))
    (λ asked is. is_asking P (protocol_of asked) c.args.subjects.now c.in_ok-queries.queries c.requires.limits c.requires.rules c.requires.scoped c.requires.queries c.requires.few c.in_ok-queries.ensures is) c.asking.ensures
