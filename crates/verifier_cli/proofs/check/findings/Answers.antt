-- One more claim is looked at.
use Rattle.std.proofs.Common.{◌≡◌, ◌∙◌, ◌+◌, ◌<◌, ◌≤◌, ap, sym, get_or, length, List, rules, arith}
use Rattle.std.proofs.lemmas.List.{length_push}
use Rattle.std.proofs.lemmas.Iterator.Adapters.{YieldsList-from_vec}
use Rattle.std.proofs.lemmas.Iterator.Consumers.{YieldsList-turn, YieldsList-end}
use Rattle.pi_tree.specs.Protocols.{protocol_of}
use Rattle.cert_text.specs.declared.shared_claims.SharedClaim.{SharedClaim}
use Rattle.verifier_cli.proofs.Found.{one_more, all_found}
use Rattle.verifier_cli.proofs.check.findings.Goals as goal

pub finding-requires-clause-there : goal.finding-requires-clause-there
finding-requires-clause-there c =
    let counted : c.into_iter-claim-iterator.result.rest.len ≡ length c.claims.inside.items.items = search rules in
    let turn = YieldsList-turn (YieldsList-from_vec c.claims.inside.items.items c.into_iter-claim-iterator.ensures.into_iter_gives.0 counted) c.each.yielded c.each.claim-iterator c.each.yielded_by c.next.result c.next.new.self c.in-Some.claim c.in-Some.is c.next.ensures.steps in
    (omega arith, omega (arith, turn.0, c.each.invariant.count, c.requires.each, ap (λ (cs : List SharedClaim). length cs) c.claims.view_is))

pub each-preserved : goal.each-preserved
each-preserved c =
    let P = protocol_of c.args.protocol.now in
    let claims = c.args.claims in
    let items = c.claims.inside.items.items in
    let claim = c.in-Some.claim in
    let counted : c.into_iter-claim-iterator.result.rest.len ≡ length items = search rules in
    let turn = YieldsList-turn (YieldsList-from_vec items c.into_iter-claim-iterator.ensures.into_iter_gives.0 counted) c.each.yielded c.each.claim-iterator c.each.yielded_by c.next.result c.next.new.self claim c.in-Some.is c.next.ensures.steps in
    let within : c.each.number < length claims = omega (arith, turn.0, c.each.invariant.count, ap (λ (cs : List SharedClaim). length cs) c.claims.view_is) in
    let is : claim ≡ get_or claims c.each.number claim = turn.1 ∙ (ap (λ k. get_or items k claim) (sym c.each.invariant.count) ∙ ap (λ (cs : List SharedClaim). get_or cs c.each.number claim) c.claims.view_is) in
    record {
      count = ap (λ k. k + 1) c.each.invariant.count ∙ sym (length_push c.each.yielded claim);
      found = one_more P P.queries claims c.each.number c.each.items.items c.push.new.self.items claim c.in_ok-found.found c.requires.each within is c.in_ok-push.ensures.items c.each.invariant.found c.in_ok-found.ensures;
    }

pub returns : goal.returns
returns c =
    let P = protocol_of c.args.protocol.now in
    let items = c.claims.inside.items.items in
    let counted : c.into_iter-claim-iterator.result.rest.len ≡ length items = search rules in
    let end = YieldsList-end (YieldsList-from_vec items c.into_iter-claim-iterator.ensures.into_iter_gives.0 counted) c.each.yielded c.each.claim-iterator c.each.yielded_by c.next.result c.next.new.self c.in-None.is c.next.ensures.steps in
    let past : length c.args.claims ≤ c.each.number = omega (arith, end.1, c.each.invariant.count, ap (λ (cs : List SharedClaim). length cs) c.claims.view_is) in
    all_found P P.queries c.args.claims c.each.number c.each.items.items c.requires.each past c.each.invariant.found
