use Rattle.std.proofs.Common.{arith}
use Rattle.clause_instances.proofs.Closes.{given_term, lost_term}
use Rattle.clause_instances.proofs.closing.term_at.Goals as goal

pub returns-then-place-given-clause-names : goal.returns-then-place-given-clause-names
returns-then-place-given-clause-names g c = λ n is. given_term (g.B.Bank.trees c.args.bank.now) c.args.given.now n c.args.place record { index = 0 } c.requires (omega arith)

pub returns-clause-names : goal.returns-clause-names
returns-clause-names g c = λ n is. lost_term (g.B.Bank.trees c.args.bank.now) (g.B.Bank.trees c.own_name.new.bank) c.args.given.now n c.args.place c.args.number.now c.in_ok-id.id (omega arith) is c.in_ok-id.ensures.names
