use Rattle.std.proofs.Common.{◌≡◌, map, length, OnOk, sym, subst}
use Rattle.term_tree.specs.Bank.{symbol_of}
use Rattle.term_store.specs.SharedBank.{AddsNew}
use Rattle.spec_node_tables.specs.Nodes.{term_of}
use Rattle.node_lines.specs.Seen.{id_of, node_of, HasNodesBefore}
use Rattle.node_lines.specs.declared.nodes.TableNode.{TableNode}
use Rattle.node_reader.proofs.Terms.{adds_ok}
use Rattle.node_reader.proofs.table.put.Goals as goal

pub returns-in_ok-ids-in-Over-clause-added : goal.returns-in_ok-ids-in-Over-clause-added
returns-in_ok-ids-in-Over-clause-added c =
    let old = c.args.bank.now in
    let new = c.app.new.self in
    let numbers = c.in-Over.numbers.items.items in
    let ids : c.deref-in-Over.result.now ≡ map id_of numbers = cc (c.in_ok-ids-in-Over.ensures) in
    let before = subst (λ (n : TableNode). HasNodesBefore (length old) n) c.in-Over.is c.requires in
    subst (λ (n : TableNode). OnOk c.app.result (AddsNew old new (term_of old (node_of n)))) (sym c.in-Over.is)
    (adds_ok c.app.result old new (symbol_of c.in-Over.symbol) numbers c.deref-in-Over.result.now ids before c.app.ensures.added)
