use Rattle.std.proofs.Common.{◌∙◌, ap, take, arith}
use Rattle.term_tree.proofs.BankLaws.{take-grows, Grows-length}
use Rattle.attacker_sources.proofs.rules.raw_rule.Goals as goal

pub returns-clause-bank : goal.returns-clause-bank
returns-clause-bank g c = c.back.ensures ∙ (ap (λ n. take n (g.B.Bank.trees c.raw_grown-raw.new.bank)) c.mark-mark.ensures ∙ take-grows (g.B.Bank.trees c.args.bank.now) (g.B.Bank.trees c.raw_grown-raw.new.bank) c.raw_grown-raw.ensures.grows)

pub back-requires : goal.back-requires
back-requires g c = omega (arith, c.mark-mark.ensures, Grows-length (g.B.Bank.trees c.args.bank.now) (g.B.Bank.trees c.raw_grown-raw.new.bank) c.raw_grown-raw.ensures.grows)
