use Rattle.std.proofs.Common.{arith}
use Rattle.term_tree.proofs.BankLaws.{Grows-length}
use Rattle.clause_resolve.proofs.Answering.{taken_back, as_before}
use Rattle.clause_resolve.proofs.resolving.found_under.Goals as goal

pub back-requires : goal.back-requires
back-requires g c = omega (arith, c.mark-mark.ensures, Grows-length (g.B.Bank.trees c.args.bank.now) (g.B.Bank.trees c.resolvents_under.new.bank) c.resolvents_under.ensures.grows)

pub back-requires-in-Err-Memory : goal.back-requires-in-Err-Memory
back-requires-in-Err-Memory g c = omega (arith, c.mark-mark.ensures, Grows-length (g.B.Bank.trees c.args.bank.now) (g.B.Bank.trees c.resolvents_under.new.bank) c.resolvents_under.ensures.grows)

pub returns-in-Err-Large-clause-grows : goal.returns-in-Err-Large-clause-grows
returns-in-Err-Large-clause-grows g c = taken_back (g.B.Bank.trees c.args.bank.now) (g.B.Bank.trees c.resolvents_under.new.bank) (g.B.Bank.trees c.back.new.self) _ c.resolvents_under.ensures.grows c.mark-mark.ensures c.back.ensures

pub returns-in-Err-Large-clause-as_before : goal.returns-in-Err-Large-clause-as_before
returns-in-Err-Large-clause-as_before g c = as_before (g.B.Bank.trees c.args.bank.now) (g.B.Bank.trees c.resolvents_under.new.bank) (g.B.Bank.trees c.back.new.self) _ c.resolvents_under.ensures.grows c.mark-mark.ensures c.back.ensures

pub returns-in-Err-Memory-clause-grows : goal.returns-in-Err-Memory-clause-grows
returns-in-Err-Memory-clause-grows g c = taken_back (g.B.Bank.trees c.args.bank.now) (g.B.Bank.trees c.resolvents_under.new.bank) (g.B.Bank.trees c.back-in-Err-Memory.new.self) _ c.resolvents_under.ensures.grows c.mark-mark.ensures c.back-in-Err-Memory.ensures

pub returns-in-Err-Memory-clause-err : goal.returns-in-Err-Memory-clause-err
returns-in-Err-Memory-clause-err g c = as_before (g.B.Bank.trees c.args.bank.now) (g.B.Bank.trees c.resolvents_under.new.bank) (g.B.Bank.trees c.back-in-Err-Memory.new.self) _ c.resolvents_under.ensures.grows c.mark-mark.ensures c.back-in-Err-Memory.ensures
