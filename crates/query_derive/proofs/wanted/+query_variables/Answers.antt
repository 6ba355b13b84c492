use Rattle.std.proofs.Common.{◌++◌, arith}
use Rattle.query_derive.proofs.Converting.{variables_in, variables_on}
use Rattle.std.proofs.lemmas.Grind.{common_steps}
use Rattle.query_derive.proofs.wanted.+query_variables.Goals as goal

pub add_all_variables-loop-term-preserved : goal.add_all_variables-loop-term-preserved
add_all_variables-loop-term-preserved t c =
    variables_on c.deref-term-items.result.now c.loop-term.term-index c.term-item.result c.loop-term.numbers.items c.add_variables.new.numbers.items
    (c.args.numbers.now.items ++ variables_in c.deref-term-items.result.now) c.loop-term-test.true c.term-item.is c.loop-term.invariant c.in_ok-add_variables.ensures

pub add_all_variables-returns : goal.add_all_variables-returns
add_all_variables-returns t c = grind (arith, common_steps)
