use Rattle.clause_diffs.proofs.Counting.{place_here, place_on, place_past}
use Rattle.clause_diffs.proofs.numbers.place_among.Goals as goal

pub returns-then-number-one : goal.returns-then-number-one
returns-then-number-one c = place_here c.args.number c.args.numbers.now c.each.i c.each-test.true c.each.invariant c.if-number-one.true

pub each-preserved : goal.each-preserved
each-preserved c = place_on c.args.number c.args.numbers.now c.each.i c.each-test.true c.each.invariant c.if-number-one.false

pub returns : goal.returns
returns c = place_past c.args.number c.args.numbers.now c.each.i c.each-test.false c.each.auto.i-end c.each.invariant
