use Rattle.attack_candidates.proofs.Keeping.{goal_fit}
use Rattle.attack_candidates.proofs.found.is_covered.Goals as goal

pub subsumes-requires-clause-general : goal.subsumes-requires-clause-general
subsumes-requires-clause-general c = goal_fit c.args.bank.now c.args.goals.now c.each.goal-index c.goal-item.result c.goal-item.is c.requires.goals c.each-test.true
