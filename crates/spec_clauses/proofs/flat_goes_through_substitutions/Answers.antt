use Rattle.spec_clauses.proofs.FlatUnder.{flat_under-flat, flat_under-flat_under}
use Rattle.spec_clauses.proofs.flat_goes_through_substitutions.Goals as goal

pub returns-clause-fact : goal.returns-clause-fact
returns-clause-fact c = flat_under-flat

pub returns-clause-facts : goal.returns-clause-facts
returns-clause-facts c = flat_under-flat_under
