use Rattle.spec_certificates.proofs.OneRuling.{one_ruling}
use Rattle.spec_certificates.proofs.one_ruling.Goals as goal

pub returns : goal.returns
returns c = one_ruling
