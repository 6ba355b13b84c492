use Rattle.std.proofs.Common.{List, Contains, sym, subst}
use Rattle.std.proofs.lemmas.Result.{IfOk-weaker}
use Rattle.pi_tree.specs.Protocols.{protocol_of}
use Rattle.std.specs.Prelude.{◌⊎◌}
use Rattle.spec_calculus.specs.Syntax.{EventTerm}
use Rattle.protocol_text.specs.declared.questions.Subject.{Subject}
use Rattle.protocol_text.specs.Questions.{IsAbout}
use Rattle.hx.specs.Never.{IsNever, IsUnproved, IsListed}
use Rattle.protocol_text.specs.Asking.{AreSubjects}
use Rattle.hx.specs.Noted.{AreFound}
use Rattle.hx.proofs.Noting.{contains_subject}
use Rattle.hx.proofs.impossible.impossible.Goals as goal

pub never_among-requires-clause-there : goal.never_among-requires-clause-there
never_among-requires-clause-there c = subst (λ (subjects : List Subject). AreSubjects (protocol_of c.args.protocol.now) subjects) (sym c.deref.ensures.value) c.in_ok-all.ensures.there

pub returns-clause-never : goal.returns-clause-never
returns-clause-never c =
    let P = protocol_of c.args.protocol.now in
    IfOk-weaker c.never_among.result (λ found. AreFound P c.args.budget c.deref.result.now found) (λ found. (s : Subject) → IsListed found s → IsNever P c.args.budget s) (λ found are. are.never) c.never_among.ensures

pub returns-clause-others : goal.returns-clause-others
returns-clause-others c =
    let P = protocol_of c.args.protocol.now in
    IfOk-weaker c.never_among.result (λ found. AreFound P c.args.budget c.deref.result.now found) (λ found. (s : Subject) (event : EventTerm) → IsAbout P s event → IsListed found s ⊎ IsUnproved P c.args.budget event)
    (λ found are s event about. are.others s event (subst (λ (subjects : List Subject). Contains subjects s) (sym c.deref.ensures.value) (contains_subject P c.in_ok-all.all.items s event c.in_ok-all.ensures about)) about) c.never_among.ensures
