use Rattle.std.proofs.Common.{◌≡◌, map, rules}
use Rattle.clause_form.specs.PlainFacts.{plain_fact_of}
use Rattle.clause_form.proofs.Copying.{clause_named}
use Rattle.term_tree.proofs.BankLaws.{Grows_trans}
use Rattle.clause_form.proofs.copies.copy_clause.Goals as goal

pub returns-clause-names : goal.returns-clause-names
returns-clause-names g c =
    let hyps_are : map plain_fact_of c.deref.result.now ≡ c.args.plain.now.hypotheses = search rules in
    let diffs_are : c.deref-2.result.now ≡ c.args.plain.now.diffs = search rules in
    clause_named (g.B.Bank.trees c.copy_facts.new.bank) (g.B.Bank.trees c.copy_diffs.new.bank) (g.B.Bank.trees c.copy_fact.new.bank) c.in_ok-hyps.hyps c.in_ok-diffs.diffs _ _ _ c.args.plain.now c.copy_diffs.ensures.grows c.copy_fact.ensures.grows
    c.in_ok-hyps.ensures.names hyps_are c.in_ok-diffs.ensures.names diffs_are (search rules)

pub returns-in_err-diffs-clause-grows : goal.returns-in_err-diffs-clause-grows
returns-in_err-diffs-clause-grows g c = Grows_trans (g.B.Bank.trees c.args.bank.now) (g.B.Bank.trees c.copy_facts.new.bank) (g.B.Bank.trees c.copy_diffs.new.bank) c.copy_facts.ensures.grows c.copy_diffs.ensures.grows

pub returns-in_err-concl-clause-grows : goal.returns-in_err-concl-clause-grows
returns-in_err-concl-clause-grows g c =
    let first = g.B.Bank.trees c.copy_facts.new.bank in
    let second = g.B.Bank.trees c.copy_diffs.new.bank in
    let third = g.B.Bank.trees c.copy_fact.new.bank in
    Grows_trans (g.B.Bank.trees c.args.bank.now) first third c.copy_facts.ensures.grows (Grows_trans first second third c.copy_diffs.ensures.grows c.copy_fact.ensures.grows)

pub returns-clause-grows : goal.returns-clause-grows
returns-clause-grows g c =
    let first = g.B.Bank.trees c.copy_facts.new.bank in
    let second = g.B.Bank.trees c.copy_diffs.new.bank in
    let third = g.B.Bank.trees c.copy_fact.new.bank in
    Grows_trans (g.B.Bank.trees c.args.bank.now) first third c.copy_facts.ensures.grows (Grows_trans first second third c.copy_diffs.ensures.grows c.copy_fact.ensures.grows)
