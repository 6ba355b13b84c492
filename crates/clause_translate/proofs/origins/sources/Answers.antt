use Rattle.std.proofs.Common.{◌∙◌, ap, take, arith}
use Rattle.term_tree.proofs.BankLaws.{Grows-length, take-grows}
use Rattle.clause_translate.proofs.origins.sources.Goals as goal

pub back-requires : goal.back-requires
back-requires g c = omega (arith, c.mark-mark.ensures, Grows-length (g.B.Bank.trees c.args.bank.now) (g.B.Bank.trees c.sources_grown-made.new.bank) c.sources_grown-made.ensures.grows)

pub returns-clause-bank : goal.returns-clause-bank
returns-clause-bank g c = c.back.ensures ∙ (ap (λ n. take n (g.B.Bank.trees c.sources_grown-made.new.bank)) c.mark-mark.ensures ∙ take-grows (g.B.Bank.trees c.args.bank.now) (g.B.Bank.trees c.sources_grown-made.new.bank) c.sources_grown-made.ensures.grows)
