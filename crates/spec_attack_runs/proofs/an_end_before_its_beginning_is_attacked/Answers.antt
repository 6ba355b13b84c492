use Rattle.spec_attack_runs.proofs.Examples.{an_end_is_too_soon}
use Rattle.spec_attack_runs.proofs.an_end_before_its_beginning_is_attacked.Goals as goal

pub returns : goal.returns
returns c = an_end_is_too_soon
