use Rattle.std.proofs.Common.{◌≡◌, ◌+◌, ◌*◌, map, take}
use Rattle.spec_trees.specs.Tree.{size, sizes, trees}
use Rattle.spec_translation.specs.Goal.{query_term}
use Rattle.pi_tree.specs.Terms.{term_of}
use Rattle.pi_tree.specs.Protocols.{protocol_of}
use Rattle.clause_form.specs.Plain.{term_of as tree_term}
use Rattle.query_derive.proofs.wanted.+query_trees.Given as goal

abbrev pub decreases-tree_of : goal.decreases-tree_of
decreases-tree_of l = 2 * size (term_of l.term.now)

abbrev pub decreases-trees_of : goal.decreases-trees_of
decreases-trees_of l = 2 * sizes (trees l.terms.now) + 1

abbrev pub invariant-trees_of-loop-term : goal.invariant-trees_of-loop-term
invariant-trees_of-loop-term l = map tree_term l.items.items ≡ map (λ t. query_term (protocol_of l.protocol) (term_of t)) (take l.term-index l.term-items)
