use Rattle.std.proofs.Common.{◌≡◌, ◌∙◌, ◌+◌, Some, ap, sym, map, length, arith, rules}
use borrow.Author.Tests.{ltb-true}
use Rattle.pi_tree.specs.Events.{event_of}
use Rattle.pi_tree.specs.Protocols.{protocol_of}
use Rattle.pi_tree.specs.Queries.{query_of}
use Rattle.spec_calculus.specs.Points.{numbered}
use Rattle.query_derive.specs.Sought.{sought_for, all_sought}
use Rattle.query_derive.proofs.Converting.{numbered-map}
use Rattle.query_derive.proofs.wanted.wanted_at.Goals as goal

pub returns-in_ok-wanted_for-in-Some-get : goal.returns-in_ok-wanted_for-in-Some-get
returns-in_ok-wanted_for-in-Some-get c =
    let found = c.in-Some-get.ensures.lookup in
    let next : c.args.number ≡ c.in-Some.index + 1 = omega arith in
    let are : c.deref.result.now ≡ c.in-Corr.alternatives = search rules in
    let of_query : map (sought_for (protocol_of c.args.protocol.now) (event_of c.in-Corr.left)) c.deref.result.now ≡ all_sought (protocol_of c.args.protocol.now) (query_of c.args.query.now) =
    ap (map (sought_for (protocol_of c.args.protocol.now) (event_of c.in-Corr.left))) are ∙ ap (λ q. all_sought (protocol_of c.args.protocol.now) (query_of q)) (sym c.in-Corr.is) in
    let made : Some _ ≡ Some _ = ap Some c.in_ok-wanted_for-in-Some-get.ensures in
    made ∙ numbered-map (sought_for (protocol_of c.args.protocol.now) (event_of c.in-Corr.left)) c.deref.result.now c.in-Some.index c.args.number c.in-Some-get.alternative.now next (ltb-true c.in-Some.index (length c.deref.result.now) (sym found.0)) found.1 ∙ ap (λ l. numbered l c.args.number) of_query
