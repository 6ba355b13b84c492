use Rattle.spec_node_tables.proofs.Certificates.{with_nodes_is, certificates_apart}
use Rattle.spec_node_tables.proofs.node_texts_determine_certificates.Goals as goal

pub returns-clause-is_of : goal.returns-clause-is_of
returns-clause-is_of g = with_nodes_is

pub returns-clause-one : goal.returns-clause-one
returns-clause-one g = λ P c d k l names is_c is_d few_c few_d e. let same = certificates_apart P names c d k l is_c is_d few_c few_d e in (same.thing, same.rest)
