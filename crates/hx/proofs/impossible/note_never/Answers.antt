use Rattle.std.proofs.Common.{◌≡◌, ◌∙◌, List, length, sym, subst}
use Rattle.std.proofs.lemmas.Result.{on_ok_weaker}
use Rattle.pi_tree.specs.Protocols.{protocol_of}
use Rattle.query_verify.specs.declared.answers.Verdict.{Verdict}
use Rattle.hx.specs.Noted.{AreAnswered}
use Rattle.hx.proofs.Noting.{as_many, told_of}
use Rattle.hx.proofs.impossible.note_never.Goals as goal

pub note_proved-requires : goal.note_proved-requires
note_proved-requires c =
    let same : c.deref.result.now ≡ c.in_ok-told.told = c.deref.ensures.value ∙ c.told.view_is in
    record { as_many = subst (λ (answers : List Verdict). length answers ≡ length c.args.subjects.now) (sym same) (as_many (protocol_of c.args.protocol.now) c.args.budget c.args.subjects.now c.in_ok-told.told c.in_ok-told.ensures) }

pub returns : goal.returns
returns c =
    let P = protocol_of c.args.protocol.now in
    let same : c.deref.result.now ≡ c.in_ok-told.told = c.deref.ensures.value ∙ c.told.view_is in
    let answered : AreAnswered P c.args.budget c.args.subjects.now c.deref.result.now = subst (λ (answers : List Verdict). AreAnswered P c.args.budget c.args.subjects.now answers) (sym same) c.in_ok-told.ensures in
    on_ok_weaker c.note_proved.result
    (λ listed. told_of P c.args.budget c.requires.readable.limits c.requires.readable.rules c.requires.readable.scoped c.requires.readable.queries c.proved_queries_hold.ensures c.args.subjects.now c.deref.result.now c.args.found.now c.note_proved.new.found answered listed) c.note_proved.ensures
