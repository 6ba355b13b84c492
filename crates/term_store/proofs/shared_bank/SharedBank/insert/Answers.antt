use Rattle.std.proofs.Common.{List, map, OnOk, ap, sym, ◌∙◌, subst}
use Rattle.spec_trees.specs.Tree.{node}
use Rattle.term_tree.specs.Bank.{symbol_of, tree_at}
use Rattle.term_tree.specs.Roots.{Root, tree_of, told}
use Rattle.term_tree.specs.declared.bank.Id.{Id}
use Rattle.term_store.specs.SharedBank.{AddsNew}
use Rattle.term_store.proofs.Shapes.{plain_over}
use Rattle.term_store.proofs.shared_bank.SharedBank.insert.Goals as goal

pub add-requires-clause-plain : goal.add-requires-clause-plain
add-requires-clause-plain c = plain_over c.of-head.result c.in_ok-args.args.items c.args.symbol c.in_ok-args.args.items (c.of-head.ensures c.in_ok-args.args.items)

pub add-requires-clause-tells : goal.add-requires-clause-tells
add-requires-clause-tells c =
    c.measure_over-measure.ensures (symbol_of c.args.symbol) ∙ (ap (λ (ids : List Id). told (node (symbol_of c.args.symbol) (map (tree_at c.args.self.now) ids))) (sym c.in_ok-args.ensures.ok)
    ∙ ap (λ (r : Root). told (tree_of c.args.self.now r)) (sym (c.of-head.ensures c.in_ok-args.args.items)))

pub returns-clause-added : goal.returns-clause-added
returns-clause-added c =
    let adds = subst (λ (r : Root). OnOk c.add.result (AddsNew c.args.self.now c.add.new.self (tree_of c.args.self.now r))) (c.of-head.ensures c.in_ok-args.args.items) c.add.ensures.added in
    subst (λ (ids : List Id). OnOk c.add.result (AddsNew c.args.self.now c.add.new.self (node (symbol_of c.args.symbol) (map (tree_at c.args.self.now) ids)))) c.in_ok-args.ensures.ok adds
