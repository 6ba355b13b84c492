use Rattle.spec_attack_runs.proofs.Examples.{a_secret_is_heard}
use Rattle.spec_attack_runs.proofs.a_given_secret_is_attacked.Goals as goal

pub returns : goal.returns
returns c = a_secret_is_heard
