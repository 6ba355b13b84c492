use Rattle.std.proofs.Common.{map, sym, ap}
use Rattle.spec_trees.specs.Tree.{trees}
use Rattle.spec_attack_runs.specs.Compiling.{closed_values}
use Rattle.term_tree.specs.Bank.{tree_at}
use Rattle.pi_tree.specs.Values.{value_of}
use Rattle.attack_state.proofs.Valued.{added_row, no_row}
use Rattle.attack_state.proofs.values.Names.values_of.Goals as goal

pub returns-then-not-branch : goal.returns-then-not-branch
returns-then-not-branch c = λ names named listing.
    sym (no_row (map value_of c.in_ok-items.items.items) (map value_of c.add_values.new.made.items) c.in_ok-add_values.field-0 (closed_values names (trees (map (tree_at c.args.bank.now) c.args.terms.now))) (c.in_ok-add_values.ensures names named listing) c.if-not-branch.true)

pub returns : goal.returns
returns c = λ names named listing.
    sym (added_row (map value_of c.in_ok-items.items.items) (map value_of c.add_values.new.made.items) c.in_ok-add_values.field-0 (closed_values names (trees (map (tree_at c.args.bank.now) c.args.terms.now)))
    (ap (map value_of) c.in_ok-items.ensures.items) (c.in_ok-add_values.ensures names named listing) c.if-not-branch.false)
