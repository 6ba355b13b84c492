use Rattle.spec_certificates.proofs.Placing.{placed_accepted_shows}
use Rattle.spec_certificates.proofs.accepted_numbers_show.Goals as goal

pub returns : goal.returns
returns c = placed_accepted_shows
