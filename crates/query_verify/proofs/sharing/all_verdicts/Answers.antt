use Rattle.std.proofs.Common.{arith}
use Rattle.std.proofs.lemmas.Grind.{common_steps}
use Rattle.query_verify.proofs.sharing.all_verdicts.Goals as goal

pub returns-in-Clauses-clause-grows : goal.returns-in-Clauses-clause-grows
returns-in-Clauses-clause-grows g c = grind (arith, common_steps)

pub settled_verdicts-requires-clause-settled : goal.settled_verdicts-requires-clause-settled
settled_verdicts-requires-clause-settled g c = grind (arith, common_steps)

pub begun_verdicts-answers-requires-clause-given : goal.begun_verdicts-answers-requires-clause-given
begun_verdicts-answers-requires-clause-given g c = grind (arith, common_steps)
