use Rattle.spec_certificates.proofs.Accepting.{accepted_shows}
use Rattle.spec_certificates.proofs.accepted_certificates_show.Goals as goal

pub returns : goal.returns
returns c = accepted_shows
