use Rattle.spec_clauses.proofs.FlatUnder.{flat-flat, flat_parts-flat}
use Rattle.spec_clauses.proofs.Flat.{fact_variables-flat}
use Rattle.spec_clauses.proofs.Firm.{flats_are_own}
use Rattle.spec_clauses.proofs.NormAnswers.{flat_parts-own}
use Rattle.spec_clauses.proofs.flat_gives_what_is_flat.Goals as goal

pub returns-clause-flat : goal.returns-clause-flat
returns-clause-flat c = flat-flat

pub returns-clause-variables : goal.returns-clause-variables
returns-clause-variables c = fact_variables-flat

pub returns-clause-own : goal.returns-clause-own
returns-clause-own c = flats_are_own

pub returns-clause-parts : goal.returns-clause-parts
returns-clause-parts c = flat_parts-flat

pub returns-clause-own_part : goal.returns-clause-own_part
returns-clause-own_part c = flat_parts-own
