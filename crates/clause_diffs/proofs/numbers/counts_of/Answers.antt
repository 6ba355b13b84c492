use Rattle.std.proofs.Common.{◌+◌, ◌-◌, ap, get_or, arith}
use Rattle.std.proofs.lemmas.Grind.{common_steps}
use Rattle.clause_diffs.proofs.Tables.{counts_on, counts_done, count_fits}
use Rattle.clause_diffs.proofs.numbers.counts_of.Goals as goal

pub overflow_add-count : goal.overflow_add-count
overflow_add-count c =
    let fits = count_fits c.args.numbers.now c.each.i c.each.counts (get_or c.args.numbers.now (c.each.i - 1) 0) c.each.invariant.within c.each.invariant.counted in
    omega (arith, fits, c.count_in-count.ensures)

pub each-preserved : goal.each-preserved
each-preserved c = record {
  within = omega arith;
  counted = counts_on c.args.numbers.now c.each.i (c.count_in-count.result + 1) c.each.counts c.insert.new.self c.each-test.true c.each.invariant.within c.each.invariant.counted (ap (λ k. k + 1) c.count_in-count.ensures) c.in_ok-insert.ensures.updates.0;
}

pub returns : goal.returns
returns c = counts_done c.args.numbers.now c.each.i c.each.counts c.each-test.false c.each.invariant.counted

pub each-init : goal.each-init
each-init c = grind (arith, common_steps)
