use Rattle.pi_tree.specs.Protocols.{protocol_of}
use Rattle.attacker_clauses.proofs.Rules.{all_renamed}
use Rattle.std.proofs.Common.{◌∙◌, ap, take, arith}
use Rattle.term_tree.proofs.BankLaws.{Grows_same, take-grows, Grows-length}
use Rattle.attacker_clauses.proofs.attacker_list.Goals as goal

pub list_grown-requires-clause-rules : goal.list_grown-requires-clause-rules
list_grown-requires-clause-rules g c = all_renamed (protocol_of c.args.protocol.now) c.requires.rules c.requires.limits c.requires.scoped

pub returns-in-Ok-clause-names : goal.returns-in-Ok-clause-names
returns-in-Ok-clause-names g c = c.in-Ok.ensures.listed.names

pub returns-in-Ok-clause-low : goal.returns-in-Ok-clause-low
returns-in-Ok-clause-low g c = c.in-Ok.ensures.listed.low

pub returns-in-Err-clause-grows : goal.returns-in-Err-clause-grows
returns-in-Err-clause-grows g c = Grows_same (g.B.Bank.trees c.args.bank.now) (g.B.Bank.trees c.back.new.self) (c.back.ensures ∙ (ap (λ n. take n (g.B.Bank.trees c.list_grown.new.bank)) c.mark-mark.ensures ∙ take-grows (g.B.Bank.trees c.args.bank.now) (g.B.Bank.trees c.list_grown.new.bank) c.list_grown.ensures.grows))

pub returns-in-Err-clause-err : goal.returns-in-Err-clause-err
returns-in-Err-clause-err g c = c.back.ensures ∙ (ap (λ n. take n (g.B.Bank.trees c.list_grown.new.bank)) c.mark-mark.ensures ∙ take-grows (g.B.Bank.trees c.args.bank.now) (g.B.Bank.trees c.list_grown.new.bank) c.list_grown.ensures.grows)

pub back-requires : goal.back-requires
back-requires g c = omega (arith, c.mark-mark.ensures, Grows-length (g.B.Bank.trees c.args.bank.now) (g.B.Bank.trees c.list_grown.new.bank) c.list_grown.ensures.grows)
