use Rattle.spec_written_certificates.proofs.Written.{written_spelled}
use Rattle.spec_written_certificates.proofs.written_certificates_are_spelled.Goals as goal

pub returns : goal.returns
returns c = λ P cert format rest is. written_spelled (λ cs small. (c.what_fits_in_nodes.ensures.decided cs).0 small) P cert format rest is
