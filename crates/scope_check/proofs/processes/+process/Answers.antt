-- What the parts of a process give, it gives.
use Rattle.std.proofs.Common.{arith}
use Rattle.std.proofs.lemmas.Grind.{common_steps}
use Rattle.scope_check.proofs.processes.+process.Goals as goal

pub choice-returns-in_err-rest : goal.choice-returns-in_err-rest
choice-returns-in_err-rest t c = grind (arith, common_steps)

pub choice-returns-in_err-done : goal.choice-returns-in_err-done
choice-returns-in_err-done t c = grind (arith, common_steps)

pub choice-returns : goal.choice-returns
choice-returns t c = grind (arith, common_steps)

pub retrieval-returns-in_err-rest : goal.retrieval-returns-in_err-rest
retrieval-returns-in_err-rest t c = grind (arith, common_steps)

pub retrieval-returns-in_err-done : goal.retrieval-returns-in_err-done
retrieval-returns-in_err-done t c = grind (arith, common_steps)

pub retrieval-returns : goal.retrieval-returns
retrieval-returns t c = grind (arith, common_steps)

pub retrieval-process-requires : goal.retrieval-process-requires
retrieval-process-requires t c = grind (arith, common_steps)

pub retrieval-below-requires : goal.retrieval-below-requires
retrieval-below-requires t c = grind (arith, common_steps)

pub retrieval-continuation-requires : goal.retrieval-continuation-requires
retrieval-continuation-requires t c = grind (arith, common_steps)

pub insertion-returns : goal.insertion-returns
insertion-returns t c = grind (arith, common_steps)

pub insertion-continuation-requires : goal.insertion-continuation-requires
insertion-continuation-requires t c = grind (arith, common_steps)

pub at_point-returns-in-Get : goal.at_point-returns-in-Get
at_point-returns-in-Get t c = grind (arith, common_steps)

pub comparison-returns : goal.comparison-returns
comparison-returns t c = grind (arith, common_steps)

pub comparison-returns-in_err-rest : goal.comparison-returns-in_err-rest
comparison-returns-in_err-rest t c = grind (arith, common_steps)

pub input-returns : goal.input-returns
input-returns t c = grind (arith, common_steps)

pub happening-returns : goal.happening-returns
happening-returns t c = grind (arith, common_steps)

pub waiting-returns : goal.waiting-returns
waiting-returns t c = grind (arith, common_steps)

pub output-returns : goal.output-returns
output-returns t c = grind (arith, common_steps)

pub choice-process-requires : goal.choice-process-requires
choice-process-requires t c = grind (arith, common_steps)

pub choice-below-requires : goal.choice-below-requires
choice-below-requires t c = grind (arith, common_steps)

pub choice-continuation-requires : goal.choice-continuation-requires
choice-continuation-requires t c = grind (arith, common_steps)

pub comparison-process-requires : goal.comparison-process-requires
comparison-process-requires t c = grind (arith, common_steps)

pub comparison-below-requires-2 : goal.comparison-below-requires-2
comparison-below-requires-2 t c = grind (arith, common_steps)

pub comparison-continuation-requires : goal.comparison-continuation-requires
comparison-continuation-requires t c = grind (arith, common_steps)

pub input-continuation-requires : goal.input-continuation-requires
input-continuation-requires t c = grind (arith, common_steps)

pub happening-continuation-requires : goal.happening-continuation-requires
happening-continuation-requires t c = grind (arith, common_steps)

pub waiting-continuation-requires : goal.waiting-continuation-requires
waiting-continuation-requires t c = grind (arith, common_steps)

pub output-continuation-requires : goal.output-continuation-requires
output-continuation-requires t c = grind (arith, common_steps)

pub restriction-continuation-requires : goal.restriction-continuation-requires
restriction-continuation-requires t c = grind (arith, common_steps)

pub restriction-returns : goal.restriction-returns
restriction-returns t c = grind (arith, common_steps)

pub both-process-requires-2 : goal.both-process-requires-2
both-process-requires-2 t c = grind (arith, common_steps)

pub both-returns : goal.both-returns
both-returns t c = grind (arith, common_steps)

pub at_point-returns-in-If : goal.at_point-returns-in-If
at_point-returns-in-If t c = grind (arith, common_steps)

pub at_point-returns-in-Let : goal.at_point-returns-in-Let
at_point-returns-in-Let t c = grind (arith, common_steps)

pub at_point-retrieval-requires : goal.at_point-retrieval-requires
at_point-retrieval-requires t c = grind (arith, common_steps)

pub retrieval-same-patterns : goal.retrieval-same-patterns
retrieval-same-patterns t c = grind (arith, common_steps)

pub at_point-comparison-requires : goal.at_point-comparison-requires
at_point-comparison-requires t c = grind (arith, common_steps)

pub at_point-returns-in-Phase : goal.at_point-returns-in-Phase
at_point-returns-in-Phase t c = grind (arith, common_steps)

pub at_point-returns-in-Input : goal.at_point-returns-in-Input
at_point-returns-in-Input t c = grind (arith, common_steps)

pub at_point-returns-in-Output : goal.at_point-returns-in-Output
at_point-returns-in-Output t c = grind (arith, common_steps)

pub at_point-returns-in-Insert : goal.at_point-returns-in-Insert
at_point-returns-in-Insert t c = grind (arith, common_steps)

pub at_point-choice-requires : goal.at_point-choice-requires
at_point-choice-requires t c = grind (arith, common_steps)

pub at_point-returns-in-Happens : goal.at_point-returns-in-Happens
at_point-returns-in-Happens t c = grind (arith, common_steps)

pub at_point-returns-in-New : goal.at_point-returns-in-New
at_point-returns-in-New t c = grind (arith, common_steps)

pub at_point-returns-in-Replicated : goal.at_point-returns-in-Replicated
at_point-returns-in-Replicated t c = grind (arith, common_steps)

pub replication-returns : goal.replication-returns
replication-returns t c = grind (arith, common_steps)

pub both-process-requires : goal.both-process-requires
both-process-requires t c = grind (arith, common_steps)

pub process-returns : goal.process-returns
process-returns t c = grind (arith, common_steps)

pub replication-process-requires : goal.replication-process-requires
replication-process-requires t c = grind (arith, common_steps)

pub at_point-waiting-requires : goal.at_point-waiting-requires
at_point-waiting-requires t c = grind (arith, common_steps)
