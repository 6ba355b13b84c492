use Rattle.std.proofs.Common.{rules, arith}
use Rattle.cert_text.specs.Seen.{shared_claim_of}
use Rattle.cert_text.proofs.Claimed.{viewed_on, claims_fault, claims_cut, claims_done, claims_further}
use Rattle.cert_text.proofs.shared_claims.all_claims.Goals as goal

pub returns-then-is_at_end : goal.returns-then-is_at_end
returns-then-is_at_end c = claims_cut _ _ _ _ _ _ _ _ c.loop-query.invariant (omega arith) (c.is_at_end.ensures.end c.if-is_at_end.true)

pub returns-in_err-next : goal.returns-in_err-next
returns-in_err-next c =
    let fault = claims_fault _ _ _ _ _ _ _ _ c.in_err-next.field-0.0 c.loop-query.invariant (omega arith) (c.is_at_end.ensures.more c.if-is_at_end.false) c.in_err-next.ensures.read in search (rules, fault)

pub loop-query-preserved : goal.loop-query-preserved
loop-query-preserved c =
    viewed_on shared_claim_of _ _ _ _ _ _ _ _ _ _ _ c.in_ok-next.next c.in_ok-push.ensures.items c.loop-query.invariant (omega arith) (c.is_at_end.ensures.more c.if-is_at_end.false) c.in_ok-next.ensures.read

pub returns-then-is_at_end-2 : goal.returns-then-is_at_end-2
returns-then-is_at_end-2 c = claims_done _ _ _ _ _ _ _ _ c.loop-query.invariant (omega arith) (c.is_at_end-2.ensures.end c.if-is_at_end-2.true)

pub returns : goal.returns
returns c = claims_further _ _ _ _ _ _ _ _ _ c.loop-query.invariant (omega arith) (c.is_at_end-2.ensures.more c.if-is_at_end-2.false) c.further.ensures
