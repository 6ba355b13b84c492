use Rattle.std.proofs.Common.{◌++◌, map, arith}
use Rattle.spec_trees.specs.Tree.{trees}
use Rattle.pi_tree.specs.Patterns.{pattern_of}
use Rattle.unified_visits.specs.Numbers.{row_numbers}
use Rattle.unified_visits.proofs.Rows.{numbers_more}
use Rattle.std.proofs.lemmas.Grind.{common_steps}
use Rattle.unified_visits.proofs.numbers.+bound.Goals as goal

pub add_all_bound-each-preserved : goal.add_all_bound-each-preserved
add_all_bound-each-preserved t c =
    let items = c.deref-pattern-items.result.now in
    numbers_more (c.args.numbers.now.items ++ row_numbers (trees (map pattern_of items))) c.each.numbers.items c.add_bound.new.numbers.items items c.each.pattern-index c.pattern-item.result c.each-test.true c.pattern-item.is c.each.invariant c.in_ok-add_bound.ensures

pub add_all_bound-returns : goal.add_all_bound-returns
add_all_bound-returns t c = grind (arith, common_steps)
