use Rattle.spec_abstraction.proofs.Older.{runs_are_named}
use Rattle.spec_abstraction.proofs.runs_are_named.Goals as goal

pub returns : goal.returns
returns c = runs_are_named
