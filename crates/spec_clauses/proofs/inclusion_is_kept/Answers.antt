use Rattle.spec_clauses.proofs.Inclusion.{within-map, within-flat_map}
use Rattle.spec_clauses.proofs.inclusion_is_kept.Goals as goal

pub returns-clause-map : goal.returns-clause-map
returns-clause-map g c = within-map

pub returns-clause-flat_map : goal.returns-clause-flat_map
returns-clause-flat_map g c = within-flat_map
