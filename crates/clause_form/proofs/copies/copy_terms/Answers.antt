use Rattle.std.proofs.Common.{arith}
use Rattle.std.proofs.lemmas.Grind.{common_steps}
use Rattle.clause_form.proofs.Copying.{copied_on}
use Rattle.term_tree.proofs.BankLaws.{Grows_refl, Grows_trans}
use Rattle.clause_form.proofs.copies.copy_terms.Goals as goal

pub loop-tree-preserved : goal.loop-tree-preserved
loop-tree-preserved g c =
    copied_on (g.B.Bank.trees c.args.bank.now) (g.B.Bank.trees c.loop-tree.bank) (g.B.Bank.trees c.copy_term.new.bank) c.loop-tree.items.items c.push.new.self.items c.args.trees.now c.loop-tree.tree-index c.tree-item.result c.in_ok-id.id
    c.loop-tree.invariant c.loop-tree-test.true c.tree-item.is c.copy_term.ensures.grows c.in_ok-id.ensures.names c.in_ok-push.ensures.items

pub returns-in_err-id-clause-grows : goal.returns-in_err-id-clause-grows
returns-in_err-id-clause-grows g c = Grows_trans (g.B.Bank.trees c.args.bank.now) (g.B.Bank.trees c.loop-tree.bank) (g.B.Bank.trees c.copy_term.new.bank) c.loop-tree.invariant.grows c.copy_term.ensures.grows

pub returns-in_err-push-clause-grows : goal.returns-in_err-push-clause-grows
returns-in_err-push-clause-grows g c = Grows_trans (g.B.Bank.trees c.args.bank.now) (g.B.Bank.trees c.loop-tree.bank) (g.B.Bank.trees c.copy_term.new.bank) c.loop-tree.invariant.grows c.copy_term.ensures.grows

pub returns-clause-names : goal.returns-clause-names
returns-clause-names g c = grind (arith, common_steps)

pub returns-in_err-items-clause-grows : goal.returns-in_err-items-clause-grows
returns-in_err-items-clause-grows g c = Grows_refl (g.B.Bank.trees c.args.bank.now)

pub loop-tree-init : goal.loop-tree-init
loop-tree-init g c = grind (arith, common_steps)
