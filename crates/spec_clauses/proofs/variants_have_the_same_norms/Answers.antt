use Rattle.spec_clauses.proofs.Variants.{variants_norm, variants_norms, variants_size, variants_large}
use Rattle.spec_clauses.proofs.variants_have_the_same_norms.Goals as goal

pub returns-clause-norm : goal.returns-clause-norm
returns-clause-norm c = variants_norm

pub returns-clause-norms : goal.returns-clause-norms
returns-clause-norms c = variants_norms

pub returns-clause-size : goal.returns-clause-size
returns-clause-size c = variants_size

pub returns-clause-large : goal.returns-clause-large
returns-clause-large c = variants_large
