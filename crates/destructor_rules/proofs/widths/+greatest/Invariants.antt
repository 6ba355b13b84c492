use Rattle.std.proofs.Common.{◌≡◌, max, map, drop}
use Rattle.spec_trees.specs.Tree.{trees}
use Rattle.spec_well_formed.specs.Leaves.{row_leaves}
use Rattle.spec_translation.specs.Applied.{greatest}
use Rattle.pi_tree.specs.Terms.{term_of}
use Rattle.destructor_rules.proofs.widths.+greatest.Given as goal

abbrev pub invariant-greatest_of-loop-term : goal.invariant-greatest_of-loop-term
invariant-greatest_of-loop-term l = max l.found (greatest (row_leaves (trees (map term_of (drop l.term-index l.term-items))))) ≡ greatest (row_leaves (trees (map term_of l.term-items)))
