-- The claims so far are spelled out.
use Rattle.std.proofs.Common.{◌≡◌, map}
use Rattle.cert_text.specs.Seen.{claim_of, shared_claim_of}
use Rattle.cert_text.proofs.claims.spelled_claims.Given as goal

abbrev pub invariant-loop-claim : goal.invariant-loop-claim
invariant-loop-claim l = map claim_of l.items.items ≡ map shared_claim_of l.yielded
