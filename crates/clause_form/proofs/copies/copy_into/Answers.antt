use Rattle.std.proofs.Common.{arith, ◌∙◌, ap, take}
use Rattle.term_tree.proofs.BankLaws.{Grows_same, Grows-length, take-grows}
use Rattle.clause_form.proofs.copies.copy_into.Goals as goal

pub back-requires : goal.back-requires
back-requires g c = omega (arith, c.mark-mark.ensures, Grows-length (g.B.Bank.trees c.args.bank.now) (g.B.Bank.trees c.copy_clause.new.bank) c.copy_clause.ensures.grows)

pub returns-in-Err-clause-grows : goal.returns-in-Err-clause-grows
returns-in-Err-clause-grows g c = Grows_same (g.B.Bank.trees c.args.bank.now) (g.B.Bank.trees c.back.new.self) (c.back.ensures ∙ (ap (λ n. take n (g.B.Bank.trees c.copy_clause.new.bank)) c.mark-mark.ensures ∙ take-grows (g.B.Bank.trees c.args.bank.now) (g.B.Bank.trees c.copy_clause.new.bank) c.copy_clause.ensures.grows))

pub returns-in-Err-clause-err : goal.returns-in-Err-clause-err
returns-in-Err-clause-err g c = c.back.ensures ∙ (ap (λ n. take n (g.B.Bank.trees c.copy_clause.new.bank)) c.mark-mark.ensures ∙ take-grows (g.B.Bank.trees c.args.bank.now) (g.B.Bank.trees c.copy_clause.new.bank) c.copy_clause.ensures.grows)
