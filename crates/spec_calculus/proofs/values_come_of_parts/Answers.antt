use Rattle.std.specs.Prelude.{refl}
use Rattle.spec_calculus.proofs.ByParts.{values_of_constructor, values_of_destructor, values_of_row}
use Rattle.spec_calculus.proofs.values_come_of_parts.Goals as goal

pub returns-clause-terms : goal.returns-clause-terms
returns-clause-terms c = λ P environment t. refl

pub returns-clause-constructors : goal.returns-clause-constructors
returns-clause-constructors c = values_of_constructor

pub returns-clause-destructors : goal.returns-clause-destructors
returns-clause-destructors c = values_of_destructor

pub returns-clause-no_parts : goal.returns-clause-no_parts
returns-clause-no_parts c = λ P environment. refl

pub returns-clause-more_parts : goal.returns-clause-more_parts
returns-clause-more_parts c = values_of_row
