use Rattle.std.proofs.Common.{◌≡◌, map, drop}
use Rattle.spec_trees.specs.Tree.{some_leaves, trees}
use Rattle.spec_calculus.specs.Absence.{is_free}
use Rattle.pi_tree.specs.Terms.{term_of}
use Rattle.pi_tree.proofs.syntax.+term_holds.Given as goal

abbrev pub invariant-Terms::hold_free-loop-term : goal.invariant-Terms::hold_free-loop-term
invariant-Terms::hold_free-loop-term l =
    some_leaves (is_free l.number) (trees (map term_of (drop l.term-index l.term-items))) ≡ some_leaves (is_free l.number) (trees (map term_of l.term-items))
