use Rattle.spec_clauses.proofs.Variants.{variants-refl, variants-sym, variants-trans}
use Rattle.spec_clauses.proofs.variants_are_an_equivalence.Goals as goal

pub returns-clause-reflexive : goal.returns-clause-reflexive
returns-clause-reflexive c = variants-refl

pub returns-clause-symmetric : goal.returns-clause-symmetric
returns-clause-symmetric c = variants-sym

pub returns-clause-transitive : goal.returns-clause-transitive
returns-clause-transitive c = variants-trans
