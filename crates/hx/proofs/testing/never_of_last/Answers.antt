use Rattle.std.proofs.Common.{List, sym, subst}
use Rattle.std.proofs.lemmas.Result.{IfOk-weaker}
use Rattle.pi_tree.specs.Protocols.{protocol_of}
use Rattle.protocol_text.specs.declared.questions.Subject.{Subject}
use Rattle.protocol_text.specs.Asking.{AreSubjects}
use Rattle.hx.specs.Never.{IsNever, IsListed}
use Rattle.hx.specs.Noted.{AreFound}
use Rattle.hx.proofs.testing.never_of_last.Goals as goal

pub never_among-requires-clause-there : goal.never_among-requires-clause-there
never_among-requires-clause-there c = subst (λ (subjects : List Subject). AreSubjects (protocol_of c.args.protocol.now) subjects) (sym c.deref.ensures.value) c.in_ok-all.ensures

pub returns : goal.returns
returns c =
    let P = protocol_of c.args.protocol.now in
    record { never = IfOk-weaker c.never_among.result (λ found. AreFound P c.args.budget c.deref.result.now found) (λ found. (s : Subject) → IsListed found s → IsNever P c.args.budget s) (λ found are. are.never) c.never_among.ensures }
