use Rattle.spec_certificate_text.proofs.Clauses.{fact_apart}
use Rattle.spec_certificate_text.proofs.fact_texts_determine_facts.Goals as goal

pub returns : goal.returns
returns g = λ P f g k l names is_f is_g e. let same = fact_apart P names f g k l is_f is_g e in (same.thing, same.rest)
