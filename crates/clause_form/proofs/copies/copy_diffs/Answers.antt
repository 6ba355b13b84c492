use Rattle.std.proofs.Common.{arith}
use Rattle.std.proofs.lemmas.Grind.{common_steps}
use Rattle.clause_form.proofs.Copying.{diffs_copied_on, diffs_copied_all}
use Rattle.term_tree.proofs.BankLaws.{Grows_refl, Grows_trans}
use Rattle.clause_form.proofs.copies.copy_diffs.Goals as goal

pub loop-one-preserved : goal.loop-one-preserved
loop-one-preserved g c =
    diffs_copied_on (g.B.Bank.trees c.args.bank.now) (g.B.Bank.trees c.loop-one.bank) (g.B.Bank.trees c.copy_diff.new.bank) c.loop-one.items.items c.push.new.self.items c.args.plain.now c.loop-one.one-index c.one-item.result c.in_ok-diff.diff
    c.loop-one.invariant c.loop-one-test.true c.one-item.is c.copy_diff.ensures.grows c.in_ok-diff.ensures.names c.in_ok-push.ensures.items

pub returns-in_err-diff-clause-grows : goal.returns-in_err-diff-clause-grows
returns-in_err-diff-clause-grows g c = Grows_trans (g.B.Bank.trees c.args.bank.now) (g.B.Bank.trees c.loop-one.bank) (g.B.Bank.trees c.copy_diff.new.bank) c.loop-one.invariant.grows c.copy_diff.ensures.grows

pub returns-in_err-push-clause-grows : goal.returns-in_err-push-clause-grows
returns-in_err-push-clause-grows g c = Grows_trans (g.B.Bank.trees c.args.bank.now) (g.B.Bank.trees c.loop-one.bank) (g.B.Bank.trees c.copy_diff.new.bank) c.loop-one.invariant.grows c.copy_diff.ensures.grows

pub returns-clause-names : goal.returns-clause-names
returns-clause-names g c = diffs_copied_all (g.B.Bank.trees c.args.bank.now) (g.B.Bank.trees c.loop-one.bank) c.loop-one.items.items c.args.plain.now c.loop-one.one-index c.loop-one.invariant c.loop-one-test.false

pub returns-in_err-items-clause-grows : goal.returns-in_err-items-clause-grows
returns-in_err-items-clause-grows g c = Grows_refl (g.B.Bank.trees c.args.bank.now)

pub loop-one-init : goal.loop-one-init
loop-one-init g c = grind (arith, common_steps)
