use Rattle.spec_certificate_text.proofs.Clauses.{clause_apart}
use Rattle.spec_certificate_text.proofs.clause_texts_determine_clauses.Goals as goal

pub returns : goal.returns
returns g = λ P c d k l names is_c is_d e. let same = clause_apart P names c d k l is_c is_d e in (same.thing, same.rest)
