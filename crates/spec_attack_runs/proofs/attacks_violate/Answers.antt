use Rattle.spec_attack_runs.proofs.Laws.{attack_violates}
use Rattle.spec_attack_runs.proofs.attacks_violate.Goals as goal

pub returns : goal.returns
returns c = attack_violates
