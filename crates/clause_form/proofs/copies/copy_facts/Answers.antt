use Rattle.std.proofs.Common.{arith}
use Rattle.std.proofs.lemmas.Grind.{common_steps}
use Rattle.clause_form.proofs.Copying.{facts_copied_on}
use Rattle.term_tree.proofs.BankLaws.{Grows_refl, Grows_trans}
use Rattle.clause_form.proofs.copies.copy_facts.Goals as goal

pub loop-one-preserved : goal.loop-one-preserved
loop-one-preserved g c =
    facts_copied_on (g.B.Bank.trees c.args.bank.now) (g.B.Bank.trees c.loop-one.bank) (g.B.Bank.trees c.copy_fact.new.bank) c.loop-one.items.items c.push.new.self.items c.args.plain.now c.loop-one.one-index c.one-item.result c.in_ok-fact.fact
    c.loop-one.invariant c.loop-one-test.true c.one-item.is c.copy_fact.ensures.grows c.in_ok-fact.ensures.names c.in_ok-push.ensures.items

pub returns-in_err-fact-clause-grows : goal.returns-in_err-fact-clause-grows
returns-in_err-fact-clause-grows g c = Grows_trans (g.B.Bank.trees c.args.bank.now) (g.B.Bank.trees c.loop-one.bank) (g.B.Bank.trees c.copy_fact.new.bank) c.loop-one.invariant.grows c.copy_fact.ensures.grows

pub returns-in_err-push-clause-grows : goal.returns-in_err-push-clause-grows
returns-in_err-push-clause-grows g c = Grows_trans (g.B.Bank.trees c.args.bank.now) (g.B.Bank.trees c.loop-one.bank) (g.B.Bank.trees c.copy_fact.new.bank) c.loop-one.invariant.grows c.copy_fact.ensures.grows

pub returns-clause-names : goal.returns-clause-names
returns-clause-names g c = grind (arith, common_steps)

pub returns-in_err-items-clause-grows : goal.returns-in_err-items-clause-grows
returns-in_err-items-clause-grows g c = Grows_refl (g.B.Bank.trees c.args.bank.now)

pub loop-one-init : goal.loop-one-init
loop-one-init g c = grind (arith, common_steps)
