use Rattle.spec_abstraction.proofs.Once.{runs_make_once}
use Rattle.spec_abstraction.proofs.restrictions_run_once.Goals as goal

pub returns : goal.returns
returns c = runs_make_once
