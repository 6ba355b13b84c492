use Rattle.spec_attack_runs.proofs.BesideVisits.{sources_there, sources_beside}
use Rattle.spec_attack_runs.proofs.sources_stand_beside_clauses.Goals as goal

pub returns-clause-some : goal.returns-clause-some
returns-clause-some c = sources_there

pub returns-clause-beside : goal.returns-clause-beside
returns-clause-beside c = sources_beside
