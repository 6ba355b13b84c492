use Rattle.std.proofs.Common.{refl}
use Rattle.spec_written_certificates.proofs.Written.{written_otherwise, written_by_table, written_unfit, no_two}
use Rattle.spec_written_certificates.proofs.certificates_are_written_in_their_formats.Goals as goal

pub returns-clause-by_table : goal.returns-clause-by_table
returns-clause-by_table c = λ P cert rest is fits. written_by_table P cert 2 rest is fits refl ((c.what_fits_in_nodes.ensures.decided cert.clauses).1 fits)

pub returns-clause-another : goal.returns-clause-another
returns-clause-another c = λ P cert format rest is other. written_otherwise P cert format rest is (no_two format other)

pub returns-clause-too_large : goal.returns-clause-too_large
returns-clause-too_large c = λ P cert format rest is unfit. written_unfit (λ cs small. (c.what_fits_in_nodes.ensures.decided cs).0 small) P cert format rest is unfit
