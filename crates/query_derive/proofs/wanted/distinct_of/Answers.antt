use Rattle.std.proofs.Common.{nat_eq, eqb-true, get_or, arith}
use Rattle.spec_terms.proofs.Replace.{eqb_self}
use Rattle.clause_form.proofs.Walks.{got}
use Rattle.clause_form.proofs.Counting.{distinct_on}
use Rattle.std.proofs.lemmas.Grind.{common_steps}
use Rattle.query_derive.proofs.wanted.distinct_of.Goals as goal

pub loop-number-preserved : goal.loop-number-preserved
loop-number-preserved c =
    distinct_on nat_eq (λ x y. eqb-true x y) eqb_self c.args.numbers.now c.loop-number.number-index (get_or c.args.numbers.now c.loop-number.number-index 0) c.loop-number.found.items c.add_new.new.numbers.items c.loop-number-test.true
    (got c.args.numbers.now c.loop-number.number-index 0 (get_or c.args.numbers.now c.loop-number.number-index 0) c.loop-number-test.true) c.loop-number.invariant c.in_ok-add_new.ensures

pub returns : goal.returns
returns c = grind (arith, common_steps)
