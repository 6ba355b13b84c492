use Rattle.std.proofs.Common.{arith}
use Rattle.std.proofs.lemmas.Grind.{common_steps}
use Rattle.fact_reader.proofs.clauses.one_hypothesis.Goals as goal

pub returns-then-has_next_hypothesis-clause-read : goal.returns-then-has_next_hypothesis-clause-read
returns-then-has_next_hypothesis-clause-read g c = grind (arith, common_steps)

pub returns-clause-read : goal.returns-clause-read
returns-clause-read g c = grind (arith, common_steps)
