use Rattle.std.proofs.Common.{true}
use Rattle.log_walks.specs.Walked.{with_asked}
use Rattle.log_walks.proofs.saturating.walk_from_goal.Given as goal

abbrev pub ghost-offer_goal : goal.ghost-offer_goal
ghost-offer_goal g a = g.task

abbrev pub ghost-walk_on : goal.ghost-walk_on
ghost-walk_on g a = with_asked g.task true
