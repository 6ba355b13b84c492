use Rattle.spec_derivations.proofs.Forest.{bad_not_derived}
use Rattle.spec_derivations.proofs.only_conclusions_are_derived.Goals as goal

pub returns : goal.returns
returns c = λ clauses events ts never d. bad_not_derived ts never d
