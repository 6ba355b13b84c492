use Rattle.std.proofs.Common.{arith, ap, ◌∙◌, subst}
use Rattle.term_tree.specs.Roots.{tree_of, HasArgs}
use Rattle.term_tree.specs.TreeBank.{root_of}
use Rattle.term_tree.specs.declared.tree_bank.Shape.{Shape}
use Rattle.term_tree.specs.declared.tree_bank.Entry.{Entry}
use Rattle.term_tree.proofs.Roots.{items-length}
use Rattle.term_tree.proofs.Entries.{entry_at}
use Rattle.term_tree.proofs.tree_bank.TreeBankBank.node.Goals as goal

pub index-requires : goal.index-requires
index-requires c = omega (arith, items-length (λ (x : Entry). root_of x.shape) c.self.inside.entries.items c.args.self.now c.self.view_is, c.requires)

pub returns-in-Var : goal.returns-in-Var
returns-in-Var c =
    let entry = entry_at c.self.inside.entries.items c.args.self.now c.args.id c.index.result.now c.self.view_is c.self.invariant c.requires c.index.ensures in
    entry.tree ∙ ap (λ (s : Shape). tree_of c.args.self.now (root_of s)) c.in-Var.is

pub returns-in-App : goal.returns-in-App
returns-in-App c =
    let entry = entry_at c.self.inside.entries.items c.args.self.now c.args.id c.index.result.now c.self.view_is c.self.invariant c.requires c.index.ensures in
    rw c.deref.ensures.value (
      entry.tree ∙ ap (λ (s : Shape). tree_of c.args.self.now (root_of s)) c.in-App.is,
      subst (λ (s : Shape). HasArgs c.args.self.now (root_of s)) c.in-App.is entry.place.args,
    )
