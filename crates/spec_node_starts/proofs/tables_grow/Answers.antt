use Rattle.spec_node_starts.proofs.Growing.{no_starts, one_more}
use Rattle.spec_node_starts.proofs.tables_grow.Goals as goal

pub returns-clause-none : goal.returns-clause-none
returns-clause-none c = no_starts

pub returns-clause-more : goal.returns-clause-more
returns-clause-more c = one_more
