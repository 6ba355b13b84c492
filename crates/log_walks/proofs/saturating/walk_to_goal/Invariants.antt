use Rattle.log_walks.proofs.saturating.walk_to_goal.Given as goal

abbrev pub ghost-offer_given : goal.ghost-offer_given
ghost-offer_given g a = g.task

abbrev pub ghost-walk_on : goal.ghost-walk_on
ghost-walk_on g a = g.task
