use Rattle.spec_clauses.proofs.Renaming.{fact_size-renamed, clause_variables-renamed}
use Rattle.spec_clauses.proofs.ClauseRenaming.{clause_size-renamed}
use Rattle.spec_clauses.proofs.renamings_keep_sizes.Goals as goal

pub returns-clause-facts : goal.returns-clause-facts
returns-clause-facts c = fact_size-renamed

pub returns-clause-clauses : goal.returns-clause-clauses
returns-clause-clauses c = clause_size-renamed

pub returns-clause-variables : goal.returns-clause-variables
returns-clause-variables c = clause_variables-renamed
