use Rattle.std.proofs.Common.{arith}
use Rattle.std.proofs.lemmas.Grind.{common_steps}
use Rattle.term_tree.proofs.BankLaws.{Grows_trans}
use Rattle.clause_instances.proofs.resolved.own_term.Goals as goal

pub returns-clause-grows : goal.returns-clause-grows
returns-clause-grows c = Grows_trans c.args.bank.now c.var.new.self c.apply_bound.new.bank c.var.ensures.grows c.apply_bound.ensures.grows

pub returns-clause-term : goal.returns-clause-term
returns-clause-term c = grind (arith, common_steps)

pub apply_bound-requires-clause-ready : goal.apply_bound-requires-clause-ready
apply_bound-requires-clause-ready c = grind (arith, common_steps)
