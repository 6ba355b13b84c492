use Rattle.std.proofs.Common.{ℕ, ◌+◌, ◌-◌, ◌<◌, arith}
use Rattle.unified_visits.proofs.Lists.{all_on}
use Rattle.unified_visits.proofs.spans.end_of.Goals as goal

pub each-preserved : goal.each-preserved
each-preserved c = record {
  up = omega (arith, c.each.invariant.up, c.max-end.ensures);
  room = all_on (λ (i : ℕ). c.args.at.base + (i - c.args.at.first) < c.each.end) (λ (i : ℕ). c.args.at.base + (i - c.args.at.first) < c.max-end.result) c.args.numbers.now c.each.number-index 0 c.each-test.true
      (λ x h. omega (arith, h, c.max-end.ensures)) c.each.invariant.room (omega (arith, c.in-Some.ensures, c.max-end.ensures));
}
