use Rattle.std.proofs.Common.{◌∙◌, ap, take, arith}
use Rattle.term_tree.proofs.BankLaws.{Grows_same, Grows-length, take-grows}
use Rattle.clause_translate.proofs.whole.translate_common.Goals as goal

pub back-requires : goal.back-requires
back-requires g c = omega (arith, c.mark-mark.ensures, Grows-length (g.B.Bank.trees c.args.bank.now) (g.B.Bank.trees c.common_grown.new.bank) c.common_grown.ensures.grows)

pub back-requires-in-Err : goal.back-requires-in-Err
back-requires-in-Err g c = omega (arith, c.mark-mark.ensures, Grows-length (g.B.Bank.trees c.args.bank.now) (g.B.Bank.trees c.common_grown.new.bank) c.common_grown.ensures.grows)

pub returns-in-Ok-Large-clause-grows : goal.returns-in-Ok-Large-clause-grows
returns-in-Ok-Large-clause-grows g c = Grows_same (g.B.Bank.trees c.args.bank.now) (g.B.Bank.trees c.back.new.self) (c.back.ensures ∙ (ap (λ n. take n (g.B.Bank.trees c.common_grown.new.bank)) c.mark-mark.ensures ∙ take-grows (g.B.Bank.trees c.args.bank.now) (g.B.Bank.trees c.common_grown.new.bank) c.common_grown.ensures.grows))

pub returns-in-Ok-Large-clause-large : goal.returns-in-Ok-Large-clause-large
returns-in-Ok-Large-clause-large g c = c.back.ensures ∙ (ap (λ n. take n (g.B.Bank.trees c.common_grown.new.bank)) c.mark-mark.ensures ∙ take-grows (g.B.Bank.trees c.args.bank.now) (g.B.Bank.trees c.common_grown.new.bank) c.common_grown.ensures.grows)

pub returns-in-Err-clause-grows : goal.returns-in-Err-clause-grows
returns-in-Err-clause-grows g c = Grows_same (g.B.Bank.trees c.args.bank.now) (g.B.Bank.trees c.back-in-Err.new.self) (c.back-in-Err.ensures ∙ (ap (λ n. take n (g.B.Bank.trees c.common_grown.new.bank)) c.mark-mark.ensures ∙ take-grows (g.B.Bank.trees c.args.bank.now) (g.B.Bank.trees c.common_grown.new.bank) c.common_grown.ensures.grows))

pub returns-in-Err-clause-err : goal.returns-in-Err-clause-err
returns-in-Err-clause-err g c = c.back-in-Err.ensures ∙ (ap (λ n. take n (g.B.Bank.trees c.common_grown.new.bank)) c.mark-mark.ensures ∙ take-grows (g.B.Bank.trees c.args.bank.now) (g.B.Bank.trees c.common_grown.new.bank) c.common_grown.ensures.grows)
