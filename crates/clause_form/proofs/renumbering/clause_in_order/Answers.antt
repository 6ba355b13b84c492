use Rattle.std.proofs.Common.{map, refl, arith}
use Rattle.std.proofs.lemmas.Grind.{common_steps}
use Rattle.clause_diffs.specs.Numbers.{placed}
use Rattle.clause_form.specs.Facts.{fact_of}
use Rattle.clause_form.proofs.Copying.{IsFactIn-grows}
use Rattle.clause_form.proofs.Numbered.{in_order_named}
use Rattle.clause_form.proofs.Remembering.{none_remembered}
use Rattle.term_tree.proofs.BankLaws.{Grows_refl, Grows_trans}
use Rattle.clause_form.proofs.renumbering.clause_in_order.Goals as goal

pub renumbered_facts-requires-clause-changes : goal.renumbered_facts-requires-clause-changes
renumbered_facts-requires-clause-changes g c = none_remembered (g.B.Bank.trees c.args.bank.now) (placed c.args.order.now) 64

pub renumbered_fact-requires-clause-known : goal.renumbered_fact-requires-clause-known
renumbered_fact-requires-clause-known g c = IsFactIn-grows (g.B.Bank.trees c.args.bank.now) (g.B.Bank.trees c.renumbered_facts.new.bank) (fact_of c.args.concl.now) c.renumbered_facts.ensures.grows c.requires.concl

pub returns-clause-names : goal.returns-clause-names
returns-clause-names g c =
    in_order_named (g.B.Bank.trees c.args.bank.now) (g.B.Bank.trees c.renumbered_facts.new.bank) (g.B.Bank.trees c.renumbered_fact.new.bank) (map fact_of c.args.hyps.now) c.args.diffs (fact_of c.args.concl.now) c.args.order.now c.in_ok-hyps.hyps (fact_of c.in_ok-concl.concl)
    c.requires.concl record { known = c.requires.diffs; are = refl } c.renumbered_facts.ensures.grows c.renumbered_fact.ensures.grows c.in_ok-hyps.ensures.names c.in_ok-concl.ensures.names

pub returns-in_err-concl-clause-grows : goal.returns-in_err-concl-clause-grows
returns-in_err-concl-clause-grows g c = Grows_trans (g.B.Bank.trees c.args.bank.now) (g.B.Bank.trees c.renumbered_facts.new.bank) (g.B.Bank.trees c.renumbered_fact.new.bank) c.renumbered_facts.ensures.grows c.renumbered_fact.ensures.grows

pub returns-clause-grows : goal.returns-clause-grows
returns-clause-grows g c = Grows_trans (g.B.Bank.trees c.args.bank.now) (g.B.Bank.trees c.renumbered_facts.new.bank) (g.B.Bank.trees c.renumbered_fact.new.bank) c.renumbered_facts.ensures.grows c.renumbered_fact.ensures.grows

pub returns-in_err-stack-clause-grows : goal.returns-in_err-stack-clause-grows
returns-in_err-stack-clause-grows g c = Grows_refl (g.B.Bank.trees c.args.bank.now)

pub renumbered_fact-requires-clause-changes : goal.renumbered_fact-requires-clause-changes
renumbered_fact-requires-clause-changes g c = grind (arith, common_steps)

pub same-diffs : goal.same-diffs
same-diffs g c = grind (arith, common_steps)
