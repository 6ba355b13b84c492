use Rattle.spec_attack_runs.proofs.OneList.{one_list}
use Rattle.spec_attack_runs.proofs.OneDescent.{one_origin}
use Rattle.spec_attack_runs.proofs.sources_and_instances_are_one_list.Goals as goal

pub returns-clause-sources : goal.returns-clause-sources
returns-clause-sources c = one_list

pub returns-clause-instances : goal.returns-clause-instances
returns-clause-instances c = one_origin
