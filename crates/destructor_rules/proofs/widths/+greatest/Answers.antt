use Rattle.std.proofs.Common.{arith}
use Rattle.destructor_rules.proofs.Greatest.{greatest_next}
use Rattle.destructor_rules.proofs.widths.+greatest.Goals as goal

pub greatest_of-loop-term-preserved : goal.greatest_of-loop-term-preserved
greatest_of-loop-term-preserved t c =
    let next = greatest_next c.deref-term-items.result.now c.loop-term.term-index c.term-item.result c.loop-term-test.true c.term-item.is in
    omega (arith, c.max-found.ensures, c.greatest_in.ensures, next, c.loop-term.invariant)
