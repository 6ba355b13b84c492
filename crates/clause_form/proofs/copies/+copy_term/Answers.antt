use Rattle.std.proofs.Common.{arith}
use Rattle.std.proofs.lemmas.Grind.{common_steps}
use Rattle.clause_form.proofs.Copying.{copied_on}
use Rattle.term_tree.proofs.BankLaws.{Grows_trans, Grows_refl}
use Rattle.clause_form.proofs.copies.+copy_term.Goals as goal

pub each-preserved : goal.each-preserved
each-preserved g t c =
    copied_on (g.B.Bank.trees c.args.bank.now) (g.B.Bank.trees c.each.bank) (g.B.Bank.trees c.copy_term.new.bank) c.each.ids.items c.push.new.self.items c.deref-argument-items.result.now c.each.argument-index c.argument-item.result c.in_ok-id-in-App.id
    c.each.invariant c.each-test.true c.argument-item.is c.copy_term.ensures.grows c.in_ok-id-in-App.ensures.names c.in_ok-push-in-App.ensures.items

pub returns-in_err-id-in-App-clause-grows : goal.returns-in_err-id-in-App-clause-grows
returns-in_err-id-in-App-clause-grows g t c = Grows_trans (g.B.Bank.trees c.args.bank.now) (g.B.Bank.trees c.each.bank) (g.B.Bank.trees c.copy_term.new.bank) c.each.invariant.grows c.copy_term.ensures.grows

pub returns-in_err-push-in-App-clause-grows : goal.returns-in_err-push-in-App-clause-grows
returns-in_err-push-in-App-clause-grows g t c = Grows_trans (g.B.Bank.trees c.args.bank.now) (g.B.Bank.trees c.each.bank) (g.B.Bank.trees c.copy_term.new.bank) c.each.invariant.grows c.copy_term.ensures.grows

pub returns-after-each-clause-grows : goal.returns-after-each-clause-grows
returns-after-each-clause-grows g t c = Grows_trans (g.B.Bank.trees c.args.bank.now) (g.B.Bank.trees c.each.bank) (g.B.Bank.trees c.app.new.self) c.each.invariant.grows c.app.ensures.grows

pub returns-in_err-ids-in-App-clause-grows : goal.returns-in_err-ids-in-App-clause-grows
returns-in_err-ids-in-App-clause-grows g t c = Grows_refl (g.B.Bank.trees c.args.bank.now)

pub returns-after-each-clause-names : goal.returns-after-each-clause-names
returns-after-each-clause-names g t c = grind (arith, common_steps)

pub each-init : goal.each-init
each-init g t c = grind (arith, common_steps)

pub app-requires : goal.app-requires
app-requires g t c = grind (arith, common_steps)
