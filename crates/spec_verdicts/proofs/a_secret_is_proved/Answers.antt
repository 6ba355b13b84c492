use Rattle.spec_verdicts.proofs.Example.{kept_proved}
use Rattle.spec_verdicts.proofs.a_secret_is_proved.Goals as goal

pub returns : goal.returns
returns c = kept_proved
