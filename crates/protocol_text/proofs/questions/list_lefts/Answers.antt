use Rattle.std.proofs.Common.{◌≡◌, length, subst, arith}
use Rattle.pi_tree.specs.Protocols.{protocol_of}
use Rattle.protocol_text.specs.Asking.{AreUpTo}
use Rattle.protocol_text.proofs.questions.list_lefts.Goals as goal

pub list_left-requires-clause-there : goal.list_left-requires-clause-there
list_left-requires-clause-there c = omega (arith, c.loop-index-test.true, c.count-index-end.ensures)

pub returns : goal.returns
returns c =
    let P = protocol_of c.args.protocol.now in
    let all : c.loop-index.index ≡ length P.queries = omega (arith, c.loop-index-test.false, c.loop-index.auto.index-end, c.count-index-end.ensures, c.requires.limits.queries) in
    subst (λ n. AreUpTo P (length P.events) n c.loop-index.all.items) all c.loop-index.invariant
