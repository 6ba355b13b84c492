use Rattle.std.proofs.Common.{arith}
use Rattle.fact_fingerprint.proofs.Comparing.{compared}
use Rattle.fact_fingerprint.proofs.meeting.are_within.Goals as goal

pub returns : goal.returns
returns c = compared c.args.lows.now c.args.highs.now (omega arith) (omega arith)
