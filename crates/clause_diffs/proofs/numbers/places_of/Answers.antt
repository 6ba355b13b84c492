use Rattle.std.proofs.Common.{arith}
use Rattle.clause_diffs.proofs.Tables.{places_on, places_done}
use Rattle.clause_diffs.proofs.numbers.places_of.Goals as goal

pub each-preserved : goal.each-preserved
each-preserved c = record {
  within = omega arith;
  finds = places_on c.args.numbers.now c.each.i c.each.places c.insert.new.self c.each-test.true c.each.invariant.within c.each.invariant.finds c.in_ok-insert.ensures.updates.0;
}

pub returns : goal.returns
returns c = places_done c.args.numbers.now c.each.i c.each.places c.each-test.false c.each.invariant.finds
