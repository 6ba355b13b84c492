use Rattle.std.proofs.Common.{◌≡◌, ◌∙◌, ◌+◌, ◌<◌, ◌≤◌, ◌++◌, List, [], ◌∷◌, length, map, get_or, sym, ap, subst, rules, arith}
use Rattle.std.proofs.lemmas.List.{length_push}
use Rattle.std.proofs.lemmas.Iterator.Adapters.{YieldsList-from_vec}
use Rattle.std.proofs.lemmas.Iterator.Consumers.{YieldsList-turn, YieldsList-end}
use Rattle.pi_tree.specs.Protocols.{protocol_of}
use Rattle.cert_text.specs.declared.shared_claims.SharedClaim.{SharedClaim}
use Rattle.cert_text.specs.Seen.{shared_claim_of}
use Rattle.choice_check.specs.Checking.{IsFindingOf}
use Rattle.choice_check.proofs.Found.{one_more, one_more_holds, all_found}
use Rattle.choice_check.proofs.checking.findings.Goals as goal

pub finding-requires-clause-there : goal.finding-requires-clause-there
finding-requires-clause-there c =
    let counted : c.into_iter-claim-iterator.result.rest.len ≡ length c.claims.inside.items.items = search rules in
    let turn = YieldsList-turn (YieldsList-from_vec c.claims.inside.items.items c.into_iter-claim-iterator.ensures.into_iter_gives.0 counted) c.each.yielded c.each.claim-iterator c.each.yielded_by c.next.result c.next.new.self c.in-Some.claim c.in-Some.is c.next.ensures.steps in
    (omega arith, omega (arith, turn.0, c.each.invariant.count, c.requires.each, ap (λ (cs : List SharedClaim). length cs) c.claims.view_is))

pub each-preserved : goal.each-preserved
each-preserved c =
    let P = protocol_of c.args.protocol.now in
    let claims = c.args.claims in
    let items = c.claims.inside.items.items in
    let claim = c.in-Some.claim in
    let counted : c.into_iter-claim-iterator.result.rest.len ≡ length items = search rules in
    let turn = YieldsList-turn (YieldsList-from_vec items c.into_iter-claim-iterator.ensures.into_iter_gives.0 counted) c.each.yielded c.each.claim-iterator c.each.yielded_by c.next.result c.next.new.self claim c.in-Some.is c.next.ensures.steps in
    let within : c.each.number < length claims = omega (arith, turn.0, c.each.invariant.count, ap (λ (cs : List SharedClaim). length cs) c.claims.view_is) in
    let is : claim ≡ get_or claims c.each.number claim = turn.1 ∙ (ap (λ k. get_or items k claim) (sym c.each.invariant.count) ∙ ap (λ (cs : List SharedClaim). get_or cs c.each.number claim) c.claims.view_is) in
    let found = c.in_ok-found.found in
    let all : c.push.new.self.items ≡ c.each.items.items ++ found ∷ [] = c.in_ok-push.ensures.items in
    record {
      count = omega (arith, length_push c.each.yielded claim, c.each.invariant.count);
      each = omega (arith, ap (λ fs. length fs) all, length_push c.each.items.items found, c.each.invariant.each);
      certificates = omega (arith, c.each.invariant.certificates, c.certificates_in-certificates.ensures.one);
      found = one_more P c.args.said.now claims c.each.number c.each.before (c.each.before + c.certificates_in-certificates.result) c.each.items.items c.push.new.self.items claim found c.requires.each within is
          (ap (λ n. c.each.before + n) c.certificates_in-certificates.ensures.is) all
          (λ q there. subst (λ said. IsFindingOf P q (shared_claim_of claim) said found) c.said_of.ensures (c.in_ok-found.ensures.found q there)) c.each.invariant.found;
      holds = one_more_holds P P.queries c.each.items.items c.push.new.self.items found c.each.number c.each.invariant.each all (λ accepted q there. c.in_ok-found.ensures.holds accepted q there) c.each.invariant.holds;
    }

pub returns-clause-found : goal.returns-clause-found
returns-clause-found c =
    let P = protocol_of c.args.protocol.now in
    let items = c.claims.inside.items.items in
    let counted : c.into_iter-claim-iterator.result.rest.len ≡ length items = search rules in
    let end = YieldsList-end (YieldsList-from_vec items c.into_iter-claim-iterator.ensures.into_iter_gives.0 counted) c.each.yielded c.each.claim-iterator c.each.yielded_by c.next.result c.next.new.self c.in-None.is c.next.ensures.steps in
    let past : length c.args.claims ≤ c.each.number = omega (arith, end.1, c.each.invariant.count, ap (λ (cs : List SharedClaim). length cs) c.claims.view_is) in
    all_found P c.args.said.now c.args.claims c.each.number c.each.before c.each.items.items c.requires.each past c.each.invariant.found
