use Rattle.spec_clauses.proofs.FlatSizes.{length-flat, flat-each, total-flat, length-flat_parts, flat_parts-size}
use Rattle.spec_clauses.proofs.flat_sizes_are_bounded.Goals as goal

pub returns-clause-number : goal.returns-clause-number
returns-clause-number c = length-flat

pub returns-clause-each : goal.returns-clause-each
returns-clause-each c = flat-each

pub returns-clause-all : goal.returns-clause-all
returns-clause-all c = total-flat

pub returns-clause-parts : goal.returns-clause-parts
returns-clause-parts c = length-flat_parts

pub returns-clause-part : goal.returns-clause-part
returns-clause-part c = flat_parts-size
