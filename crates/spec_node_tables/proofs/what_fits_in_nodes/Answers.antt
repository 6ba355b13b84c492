use Rattle.std.proofs.Common.{arith}
use Rattle.spec_node_tables.proofs.Sizes.{few_nodes, fits_within, large_decides}
use Rattle.spec_node_tables.proofs.what_fits_in_nodes.Goals as goal

pub returns-clause-few : goal.returns-clause-few
returns-clause-few g = few_nodes

pub returns-clause-short : goal.returns-clause-short
returns-clause-short g = λ cs fits. let few = few_nodes cs fits in omega arith

pub returns-clause-decided : goal.returns-clause-decided
returns-clause-decided g = large_decides

pub returns-clause-within : goal.returns-clause-within
returns-clause-within g = fits_within
