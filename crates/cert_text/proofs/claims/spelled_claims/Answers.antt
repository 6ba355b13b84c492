use Rattle.std.proofs.Common.{◌≡◌, ◌∙◌, length, map, ap, sym, rules, arith}
use Rattle.std.proofs.lemmas.Iterator.Adapters.{YieldsList-from_vec}
use Rattle.std.proofs.lemmas.Iterator.Consumers.{YieldsList-end}
use Rattle.std.proofs.lemmas.List.{map-id}
use Rattle.std.proofs.lemmas.Grind.{common_steps}
use Rattle.cert_text.specs.Seen.{shared_claim_of}
use Rattle.cert_text.proofs.claims.spelled_claims.Goals as goal

pub returns : goal.returns
returns c =
    let counted : c.into_iter-claim-iterator.result.rest.len ≡ length c.claims.inside.items.items = search rules in
    let all = YieldsList-end (YieldsList-from_vec c.claims.inside.items.items c.into_iter-claim-iterator.ensures.into_iter_gives.0 counted) c.loop-claim.yielded c.loop-claim.claim-iterator c.loop-claim.yielded_by c.next.result c.next.new.self c.in-None.is c.next.ensures.steps in
    c.loop-claim.invariant ∙ ap (map shared_claim_of) (sym (map-id c.loop-claim.yielded) ∙ (all.0 ∙ c.claims.view_is))

pub loop-claim-preserved : goal.loop-claim-preserved
loop-claim-preserved c = grind (arith, common_steps)

pub loop-claim-init : goal.loop-claim-init
loop-claim-init c = grind (arith, common_steps)
