use Rattle.std.proofs.Common.{◌-◌, length, sym}
use Rattle.attack_candidates.proofs.Keeping.{clause_there}
use Rattle.attack_candidates.proofs.beginning.add_last.Goals as goal

pub add_new-requires-clause-clause : goal.add_new-requires-clause-clause
add_new-requires-clause-clause c = clause_there c.args.bank.now c.args.given.now (length c.args.given.now - 1) c.in-Some.goal.now c.requires.given (sym c.in-Some.ensures.value)
