use Rattle.fact_placing.proofs.InCopy.{own_slot, bound_slot}
use Rattle.fact_placing.proofs.copied.same_variable.Goals as goal

pub returns-then-number-from-clause-names : goal.returns-then-number-from-clause-names
returns-then-number-from-clause-names g c = own_slot (g.T.Bank.trees c.own_variable.new.into) c.args.from.now.next c.args.from.now.first c.args.number c.own_variable.result c.if-number-from.true c.own_variable.ensures.names

pub returns-clause-names : goal.returns-clause-names
returns-clause-names g c = bound_slot (g.T.Bank.trees c.bound_variable.new.into) c.args.from.now.next c.args.from.now.first c.args.number c.bound_variable.result c.if-number-from.false c.bound_variable.ensures.names
