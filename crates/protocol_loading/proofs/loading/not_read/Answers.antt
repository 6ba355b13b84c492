-- What is refused stands within the bytes.
use Rattle.std.proofs.Common.{subst}
use Rattle.protocol_loading.specs.Reading.{IsStopOf}
use Rattle.protocol_loading.specs.Codes.{refusal_by}
use Rattle.protocol_loading.proofs.Refusals.{refusal_within}
use Rattle.protocol_loading.proofs.loading.not_read.Goals as goal

pub place-line-requires : goal.place-line-requires
place-line-requires c = refusal_within c.spans_ascend.ensures c.args.bytes.now (refusal_by c.in-Refused.code) c.in-Refused.at (subst (IsStopOf c.args.bytes.now) c.in-Refused.is c.requires)
