use Rattle.std.proofs.Common.{arith}
use Rattle.term_tree.proofs.BankLaws.{Grows-length}
use Rattle.clause_resolve.proofs.Answering.{as_before}
use Rattle.cert_stages.proofs.Lowered.{unconstrained_fit}
use Rattle.cert_checker.proofs.checking.check_normal.Goals as goal

pub check_right-requires-clause-fit : goal.check_right-requires-clause-fit
check_right-requires-clause-fit g c = unconstrained_fit (g.B.Bank.trees c.args.bank.now) c.args.checker.now.clauses.now c.normal_clauses_have_low_variables.ensures c.requires.normal (c.are_unconstrained.ensures c.if-are_unconstrained.true)

pub back-requires : goal.back-requires
back-requires g c = omega (arith, c.mark-mark.ensures, Grows-length (g.B.Bank.trees c.args.bank.now) (g.B.Bank.trees c.check_lowered-ruling.new.bank) c.check_lowered-ruling.ensures.grows)

pub returns-clause-bank : goal.returns-clause-bank
returns-clause-bank g c = as_before (g.B.Bank.trees c.args.bank.now) (g.B.Bank.trees c.check_lowered-ruling.new.bank) (g.B.Bank.trees c.back.new.self) _ c.check_lowered-ruling.ensures.grows c.mark-mark.ensures c.back.ensures
