use Rattle.spec_node_tables.proofs.Certificates.{numbered_apart}
use Rattle.spec_node_tables.proofs.numbered_texts_determine_certificates.Goals as goal

pub returns : goal.returns
returns g = λ P c d k l names is_c is_d e. let same = numbered_apart P names c d k l is_c is_d e in (same.thing, same.rest)
