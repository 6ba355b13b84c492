use Rattle.spec_verdicts.proofs.Accepting.{proved_accepted}
use Rattle.spec_verdicts.proofs.first_certificates_are_accepted.Goals as goal

pub returns : goal.returns
returns c = proved_accepted
