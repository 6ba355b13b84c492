use Rattle.spec_abstraction.proofs.Runs.{runs_are_derived}
use Rattle.spec_abstraction.proofs.runs_are_derived.Goals as goal

pub returns : goal.returns
returns c = λ P q all steps d proper linear is reached. runs_are_derived P q all is proper.proper linear steps d reached
