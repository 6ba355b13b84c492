use Rattle.spec_certificate_text.proofs.Clauses.{term_apart}
use Rattle.spec_certificate_text.proofs.term_texts_determine_terms.Goals as goal

pub returns : goal.returns
returns g = λ P t u k l names is_t is_u stops_k stops_l e. let same = term_apart P names t u k l is_t is_u stops_k stops_l e in (same.thing, same.rest)
