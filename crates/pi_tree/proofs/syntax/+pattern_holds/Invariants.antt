use Rattle.std.proofs.Common.{◌≡◌, map, drop}
use Rattle.spec_trees.specs.Tree.{some_leaves, trees}
use Rattle.spec_calculus.specs.Absence.{some_hole, is_free}
use Rattle.pi_tree.specs.Patterns.{pattern_of}
use Rattle.pi_tree.proofs.syntax.+pattern_holds.Given as goal

abbrev pub invariant-Pats::hold_free-loop-pattern : goal.invariant-Pats::hold_free-loop-pattern
invariant-Pats::hold_free-loop-pattern l =
    some_leaves (some_hole (is_free l.number)) (trees (map pattern_of (drop l.pattern-index l.pattern-items))) ≡ some_leaves (some_hole (is_free l.number)) (trees (map pattern_of l.pattern-items))
