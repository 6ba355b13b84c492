use Rattle.spec_derivations.proofs.Resolution.{resolution_law}
use Rattle.spec_derivations.proofs.resolution_keeps_chosen_instances.Goals as goal

pub returns : goal.returns
returns c = resolution_law
