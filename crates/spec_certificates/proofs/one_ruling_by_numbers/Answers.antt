use Rattle.spec_certificates.proofs.OneRuling.{one_ruling_by}
use Rattle.spec_certificates.proofs.one_ruling_by_numbers.Goals as goal

pub returns : goal.returns
returns c = one_ruling_by
