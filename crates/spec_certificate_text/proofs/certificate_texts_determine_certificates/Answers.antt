use Rattle.spec_certificate_text.proofs.Clauses.{certificate_apart}
use Rattle.spec_certificate_text.proofs.certificate_texts_determine_certificates.Goals as goal

pub returns : goal.returns
returns g = λ P c d k l names is_c is_d e. let same = certificate_apart P names c d k l is_c is_d e in (same.thing, same.rest)
