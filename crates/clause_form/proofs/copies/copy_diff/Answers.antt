use Rattle.std.proofs.Common.{◌∙◌, map, ap}
use Rattle.clause_diffs.specs.Plain.{term_of}
use Rattle.clause_form.proofs.Copying.{diff_named}
use Rattle.term_tree.proofs.BankLaws.{Grows_trans}
use Rattle.clause_form.proofs.copies.copy_diff.Goals as goal

pub returns-clause-names : goal.returns-clause-names
returns-clause-names g c =
    diff_named (g.B.Bank.trees c.copy_terms.new.bank) (g.B.Bank.trees c.copy_terms-2.new.bank) _ _ c.in_ok-left.left c.in_ok-right.right _ _ _ _ c.args.plain.now c.copy_terms-2.ensures.grows c.in_ok-left.ensures.names c.in_ok-right.ensures.names
    (λ i. (c.plain-inside.view_is i).first) (ap (map term_of) c.deref.ensures.value ∙ (λ i. (c.plain-inside.view_is i).left)) (ap (map term_of) c.deref-2.ensures.value ∙ (λ i. (c.plain-inside.view_is i).right)) c.plain.view_is

pub returns-in_err-right-clause-grows : goal.returns-in_err-right-clause-grows
returns-in_err-right-clause-grows g c = Grows_trans (g.B.Bank.trees c.args.bank.now) (g.B.Bank.trees c.copy_terms.new.bank) (g.B.Bank.trees c.copy_terms-2.new.bank) c.copy_terms.ensures.grows c.copy_terms-2.ensures.grows

pub returns-clause-grows : goal.returns-clause-grows
returns-clause-grows g c = Grows_trans (g.B.Bank.trees c.args.bank.now) (g.B.Bank.trees c.copy_terms.new.bank) (g.B.Bank.trees c.copy_terms-2.new.bank) c.copy_terms.ensures.grows c.copy_terms-2.ensures.grows
