use Rattle.std.proofs.Common.{rules}
use Rattle.shared_cert.proofs.Behind.{above_next}
use Rattle.shared_cert.proofs.spelling.above_numbers.Goals as goal

pub loop-number-preserved : goal.loop-number-preserved
loop-number-preserved c =
    above_next c.args.numbers.now c.loop-number.number-index 0 c.args.least c.loop-number.found c.max-found.result c.loop-number-test.true c.loop-number.invariant (search rules)
