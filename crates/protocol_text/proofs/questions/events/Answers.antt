use Rattle.std.proofs.Common.{◌≡◌, ◌<◌, length, subst, sym, arith}
use Rattle.protocol_text.specs.declared.questions.Subject.{Subject}
use Rattle.std.proofs.Common.{List}
use Rattle.pi_tree.specs.Protocols.{protocol_of}
use Rattle.protocol_text.specs.Asking.{AreUpTo}
use Rattle.protocol_text.proofs.SubjectLists.{up_to_none, one_more_event}
use Rattle.protocol_text.proofs.questions.events.Goals as goal

pub loop-index-init : goal.loop-index-init
loop-index-init c =
    let P = protocol_of c.args.protocol.now in
    subst (λ (all : List Subject). AreUpTo P 0 0 all) (sym c.new-all.ensures.items) (up_to_none P)

pub loop-index-preserved : goal.loop-index-preserved
loop-index-preserved c =
    let P = protocol_of c.args.protocol.now in
    let within : c.loop-index.index < length P.events = omega (arith, c.loop-index-test.true, c.count-index-end.ensures) in
    one_more_event P c.loop-index.all.items c.push.new.self.items c.loop-index.index c.in_ok-push.ensures.items within c.loop-index.invariant

pub returns : goal.returns
returns c =
    let P = protocol_of c.args.protocol.now in
    let all : c.loop-index.index ≡ length P.events = omega (arith, c.loop-index-test.false, c.loop-index.auto.index-end, c.count-index-end.ensures, c.requires.limits.names) in
    subst (λ n. AreUpTo P n 0 c.loop-index.all.items) all c.loop-index.invariant
