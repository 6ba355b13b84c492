use Rattle.std.proofs.Common.{map, arith}
use Rattle.std.proofs.lemmas.Grind.{common_steps}
use Rattle.term_tree.specs.Bank.{tree_at}
use Rattle.term_tree.proofs.BankLaws.{Grows_trans}
use Rattle.spec_attack_runs.specs.Instance.{closing}
use Rattle.clause_instances.proofs.resolved.closed_parents.Goals as goal

pub both_closed-requires : goal.both_closed-requires
both_closed-requires c = c.in_ok-closing.ensures.closing.known

pub returns-clause-grows : goal.returns-clause-grows
returns-clause-grows c = Grows_trans c.args.bank.now c.new.new.bank c.both_closed.new.bank c.new.ensures.grows c.both_closed.ensures.grows

pub returns-clause-closed : goal.returns-clause-closed
returns-clause-closed c = c.both_closed.ensures.closed (closing (map (tree_at c.args.bank.now) c.args.given.now) c.args.number.now c.args.found.variables.items) c.in_ok-closing.ensures.closing.closes

pub returns-clause-next : goal.returns-clause-next
returns-clause-next c = grind (arith, common_steps)
