use Rattle.std.proofs.Common.{◌≡◌, map, drop}
use Rattle.spec_trees.specs.Tree.{some_leaves, trees}
use Rattle.spec_calculus.specs.Absence.{is_absent_name}
use Rattle.pi_tree.specs.Terms.{term_of}
use Rattle.pi_tree.specs.Protocols.{protocol_of}
use Rattle.pi_tree.proofs.protocols.+absent.Given as goal

abbrev pub invariant-hold_absent-loop-term : goal.invariant-hold_absent-loop-term
invariant-hold_absent-loop-term l =
    some_leaves (is_absent_name (protocol_of l.protocol)) (trees (map term_of (drop l.term-index l.term-items))) ≡ some_leaves (is_absent_name (protocol_of l.protocol)) (trees (map term_of l.term-items))
