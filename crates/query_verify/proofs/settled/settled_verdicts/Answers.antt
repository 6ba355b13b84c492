use Rattle.std.proofs.Common.{◌<◌, ◌≤◌, length, arith}
use Rattle.pi_tree.specs.Protocols.{protocol_of}
use Rattle.query_verify.proofs.Each.{one_more, all_answered}
use Rattle.query_verify.proofs.settled.settled_verdicts.Goals as goal

pub each-preserved : goal.each-preserved
each-preserved g c =
    let P = protocol_of c.args.asking.now.protocol.now in
    let within : c.each.index < length P.queries = omega (arith, c.each-test.true, c.count-index-end.ensures) in
    one_more P c.args.asking.now.budget P.queries c.each.index c.each.items.items c.push.new.self.items c.in_ok-answer.answer within c.in_ok-push.ensures.items c.each.invariant (λ q there. c.in_ok-answer.ensures q)

pub returns : goal.returns
returns g c =
    let P = protocol_of c.args.asking.now.protocol.now in
    let past : length P.queries ≤ c.each.index = omega (arith, c.each-test.false, c.count-index-end.ensures, c.requires.limits.queries) in
    all_answered P c.args.asking.now.budget P.queries c.each.index c.each.items.items past c.each.invariant
