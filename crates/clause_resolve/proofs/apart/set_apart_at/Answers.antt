use Rattle.std.proofs.Common.{arith}
use Rattle.clause_resolve.proofs.Answering.{as_before, taken_back}
use Rattle.term_tree.proofs.BankLaws.{Grows-length}
use Rattle.clause_resolve.proofs.apart.set_apart_at.Goals as goal

pub returns-in-Err-clause-grows : goal.returns-in-Err-clause-grows
returns-in-Err-clause-grows g c = taken_back (g.B.Bank.trees c.args.bank.now) (g.B.Bank.trees c.shifted_clause.new.bank) (g.B.Bank.trees c.back.new.self) _ c.shifted_clause.ensures.grows c.mark-mark.ensures c.back.ensures

pub returns-in-Err-clause-err : goal.returns-in-Err-clause-err
returns-in-Err-clause-err g c = as_before (g.B.Bank.trees c.args.bank.now) (g.B.Bank.trees c.shifted_clause.new.bank) (g.B.Bank.trees c.back.new.self) _ c.shifted_clause.ensures.grows c.mark-mark.ensures c.back.ensures

pub back-requires : goal.back-requires
back-requires g c = omega (arith, c.mark-mark.ensures, Grows-length (g.B.Bank.trees c.args.bank.now) (g.B.Bank.trees c.shifted_clause.new.bank) c.shifted_clause.ensures.grows)
