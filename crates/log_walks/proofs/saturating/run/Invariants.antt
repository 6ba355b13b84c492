use Rattle.log_walks.proofs.saturating.run.Given as goal

abbrev pub ghost-walk_to_goal : goal.ghost-walk_to_goal
ghost-walk_to_goal g a = g.task

abbrev pub ghost-walk_from_goal : goal.ghost-walk_from_goal
ghost-walk_from_goal g a = g.task
