use Rattle.cert_checker.proofs.Composing.{shape_fails, right_fails, translation_large, cover_fails, closure_fails, goal_fails, all_met}
use Rattle.cert_checker.proofs.stages_make_rulings.Goals as goal

pub returns-clause-shape : goal.returns-clause-shape
returns-clause-shape c = shape_fails

pub returns-clause-wrong : goal.returns-clause-wrong
returns-clause-wrong c = right_fails

pub returns-clause-translation : goal.returns-clause-translation
returns-clause-translation c = translation_large

pub returns-clause-cover : goal.returns-clause-cover
returns-clause-cover c = cover_fails

pub returns-clause-closure : goal.returns-clause-closure
returns-clause-closure c = closure_fails

pub returns-clause-goal : goal.returns-clause-goal
returns-clause-goal c = goal_fails

pub returns-clause-met : goal.returns-clause-met
returns-clause-met c = all_met
