use Rattle.spec_clauses.proofs.Diffs.{diff_under-diff_under, diff_under-Leaf, diff_under-agree, met_under}
use Rattle.spec_clauses.proofs.substitutions_act_on_constraints.Goals as goal

pub returns-clause-composed : goal.returns-clause-composed
returns-clause-composed c = diff_under-diff_under

pub returns-clause-same : goal.returns-clause-same
returns-clause-same c = diff_under-Leaf

pub returns-clause-agree : goal.returns-clause-agree
returns-clause-agree c = diff_under-agree

pub returns-clause-met : goal.returns-clause-met
returns-clause-met c = met_under
