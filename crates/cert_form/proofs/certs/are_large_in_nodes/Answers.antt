use Rattle.std.proofs.Common.{◌∙◌, map, ap, rc_value}
use Rattle.spec_node_tables.specs.Large.{is_large_in_nodes}
use Rattle.cert_form.proofs.certs.are_large_in_nodes.Goals as goal

pub returns : goal.returns
returns c = c.is_large_in_nodes.ensures ∙ ap is_large_in_nodes (ap (map rc_value) c.deref.ensures.value ∙ c.clauses.view_is)
