use Rattle.clause_saturate.proofs.Commons.{common_grows, spent_of_each, large_of_each}
use Rattle.clause_saturate.proofs.commons_serve_each_goal.Goals as goal

pub returns-clause-grown : goal.returns-clause-grown
returns-clause-grown c = common_grows

pub returns-clause-spent : goal.returns-clause-spent
returns-clause-spent c = spent_of_each

pub returns-clause-large : goal.returns-clause-large
returns-clause-large c = large_of_each
