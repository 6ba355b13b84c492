use Rattle.std.proofs.Common.{◌≡◌, ◌+◌, ◌*◌, ◌++◌, List, map, drop, option_map}
use Rattle.spec_trees.specs.Tree.{trees, depth, depths}
use Rattle.term_tree.specs.Bank.{tree_at}
use Rattle.pi_tree.specs.Values.{value_of}
use Rattle.spec_attack_runs.specs.Compiling.{Named, closed_values}
use Rattle.attack_state.specs.Listing.{AreListed}
use Rattle.attack_state.specs.States.{NameNamed, named_class}
use Rattle.attack_state.proofs.values.Names.+add_value.Given as goal

abbrev pub decreases-add_value : goal.decreases-add_value
decreases-add_value l = 2 * depth (tree_at l.bank.now l.term)

abbrev pub decreases-add_values : goal.decreases-add_values
decreases-add_values l = 2 * depths (trees (map (tree_at l.bank.now) l.terms.now)) + 1

abbrev pub invariant-add_values-each : goal.invariant-add_values-each
invariant-add_values-each l = (names : List Named) → NameNamed l.bank l.self.items.items names → AreListed named_class l.self.items.items l.self.classes
    → option_map (λ vs. map value_of l.made.items ++ vs) (closed_values names (trees (map (tree_at l.bank) (drop l.term-index l.terms)))) ≡ option_map (λ vs. map value_of l.fn.made.items ++ vs) (closed_values names (trees (map (tree_at l.bank) l.terms)))
