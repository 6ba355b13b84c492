use Rattle.spec_derivations.proofs.NormLaw.{norm_law}
use Rattle.spec_derivations.proofs.norm_keeps_instances.Goals as goal

pub returns : goal.returns
returns c = norm_law
