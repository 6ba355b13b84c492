use Rattle.std.proofs.Common.{◌≡◌, ◌++◌, map, drop}
use Rattle.spec_trees.specs.Tree.{trees}
use Rattle.pi_tree.specs.Patterns.{pattern_of}
use Rattle.unified_visits.specs.Numbers.{row_numbers}
use Rattle.unified_visits.proofs.numbers.+bound.Given as goal

abbrev pub invariant-add_all_bound-each : goal.invariant-add_all_bound-each
invariant-add_all_bound-each l =
    l.numbers.items ++ row_numbers (trees (map pattern_of (drop l.pattern-index l.pattern-items))) ≡ l.fn.numbers.items ++ row_numbers (trees (map pattern_of l.pattern-items))
