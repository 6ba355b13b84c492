use Rattle.std.proofs.Common.{List, ◌<◌, length, subst, sym, arith}
use Rattle.pi_tree.specs.Protocols.{protocol_of}
use Rattle.protocol_text.specs.declared.questions.Subject.{Subject}
use Rattle.protocol_text.specs.Asking.{AreSubjects}
use Rattle.protocol_text.proofs.SubjectLists.{none_there, event_more}
use Rattle.protocol_text.proofs.questions.events_behind.Goals as goal

pub loop-index-init : goal.loop-index-init
loop-index-init c =
    let P = protocol_of c.args.protocol.now in
    subst (λ (all : List Subject). AreSubjects P all) (sym c.new-all.ensures.items) (none_there P)

pub loop-index-preserved : goal.loop-index-preserved
loop-index-preserved c =
    let P = protocol_of c.args.protocol.now in
    let within : c.loop-index.index < length P.events = omega (arith, c.loop-index-test.true, c.count-index-end.ensures) in
    event_more P c.loop-index.all.items c.push.new.self.items c.loop-index.index c.in_ok-push.ensures.items within c.loop-index.invariant
