use Rattle.std.proofs.Common.{arith, ◌∙◌, ap, take}
use Rattle.term_tree.proofs.BankLaws.{Grows_same, Grows-length, take-grows}
use Rattle.clause_form.proofs.normal.norm.Goals as goal

pub back-requires : goal.back-requires
back-requires g c = omega (arith, c.mark-mark.ensures, Grows-length (g.B.Bank.trees c.args.bank.now) (g.B.Bank.trees c.norm_grown.new.bank) c.norm_grown.ensures.grows)

pub returns-clause-grows : goal.returns-clause-grows
returns-clause-grows g c = Grows_same (g.B.Bank.trees c.args.bank.now) (g.B.Bank.trees c.back.new.self) (c.back.ensures ∙ (ap (λ n. take n (g.B.Bank.trees c.norm_grown.new.bank)) c.mark-mark.ensures ∙ take-grows (g.B.Bank.trees c.args.bank.now) (g.B.Bank.trees c.norm_grown.new.bank) c.norm_grown.ensures.grows))

pub returns-clause-err : goal.returns-clause-err
returns-clause-err g c = c.back.ensures ∙ (ap (λ n. take n (g.B.Bank.trees c.norm_grown.new.bank)) c.mark-mark.ensures ∙ take-grows (g.B.Bank.trees c.args.bank.now) (g.B.Bank.trees c.norm_grown.new.bank) c.norm_grown.ensures.grows)
