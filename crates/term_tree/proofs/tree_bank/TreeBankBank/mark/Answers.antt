use Rattle.std.proofs.Common.{arith}
use Rattle.term_tree.specs.TreeBank.{root_of}
use Rattle.term_tree.specs.declared.tree_bank.Entry.{Entry}
use Rattle.term_tree.proofs.Roots.{items-length}
use Rattle.term_tree.proofs.tree_bank.TreeBankBank.mark.Goals as goal

pub returns : goal.returns
returns c = omega (arith, items-length (λ (x : Entry). root_of x.shape) c.self.inside.entries.items c.args.self.now c.self.view_is, c.len.ensures)
