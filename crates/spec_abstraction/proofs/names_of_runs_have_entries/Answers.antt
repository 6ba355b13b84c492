use Rattle.spec_abstraction.proofs.Entries.{runs_have_entries}
use Rattle.spec_abstraction.proofs.names_of_runs_have_entries.Goals as goal

pub returns : goal.returns
returns c = runs_have_entries
