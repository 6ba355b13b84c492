use Rattle.spec_calculus.proofs.Plain.{plain_greatest, plain_nodes, plain_open, no_next, no_put, no_fetch, no_miss}
use Rattle.spec_calculus.proofs.plain_processes_have_one_phase.Goals as goal

pub returns-clause-greatest : goal.returns-clause-greatest
returns-clause-greatest c = plain_greatest

pub returns-clause-nodes : goal.returns-clause-nodes
returns-clause-nodes c = plain_nodes

pub returns-clause-opened : goal.returns-clause-opened
returns-clause-opened c = plain_open

pub returns-clause-phases : goal.returns-clause-phases
returns-clause-phases c = no_next

pub returns-clause-writes : goal.returns-clause-writes
returns-clause-writes c = λ P d i plain. no_put P d i plain

pub returns-clause-reads : goal.returns-clause-reads
returns-clause-reads c = λ P d i e plain. (no_fetch P d i plain e, no_miss P d i plain)
