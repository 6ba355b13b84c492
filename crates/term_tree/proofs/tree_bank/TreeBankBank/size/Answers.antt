use Rattle.std.proofs.Common.{arith, ap}
use Rattle.term_tree.specs.TreeBank.{root_of}
use Rattle.term_tree.specs.declared.tree_bank.Entry.{Entry}
use Rattle.term_tree.proofs.Roots.{items-length}
use Rattle.term_tree.proofs.Entries.{entry_at}
use Rattle.term_tree.proofs.tree_bank.TreeBankBank.size.Goals as goal

pub index-requires : goal.index-requires
index-requires c = omega (arith, items-length (λ (x : Entry). root_of x.shape) c.self.inside.entries.items c.args.self.now c.self.view_is, c.requires)

pub returns : goal.returns
returns c =
    let entry = entry_at c.self.inside.entries.items c.args.self.now c.args.id c.index.result.now c.self.view_is c.self.invariant c.requires c.index.ensures in
    ap (λ p. p.0) entry.tells
