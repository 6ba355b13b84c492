use Rattle.spec_translation.proofs.Goal.{translation_parts}
use Rattle.spec_translation.proofs.Sizes.{attacker_small, goal_small, clauses_within}
use Rattle.spec_translation.proofs.translations_are_within_the_limit.Goals as goal

pub returns-clause-visits : goal.returns-clause-visits
returns-clause-visits c = λ P q all translated. let a = translation_parts P q all translated in (a.visited, a.parts, λ d h. (a.each d h).within)

pub returns-clause-attacker : goal.returns-clause-attacker
returns-clause-attacker c = attacker_small

pub returns-clause-goal : goal.returns-clause-goal
returns-clause-goal c = goal_small

pub returns-clause-all : goal.returns-clause-all
returns-clause-all c = clauses_within
