use Rattle.std.proofs.Common.{length}
use Rattle.fact_fingerprint.proofs.ranges.+range_among.Given as goal

abbrev pub decreases-range_among : goal.decreases-range_among
decreases-range_among g l = length l.way.now
