use Rattle.std.proofs.Common.{arith}
use Rattle.std.proofs.lemmas.Grind.{common_steps}
use Rattle.fact_reader.proofs.clauses.some_premises.Goals as goal

pub returns-clause-read : goal.returns-clause-read
returns-clause-read g c = grind (arith, common_steps)

pub returns-in_err-pass-2-clause-read : goal.returns-in_err-pass-2-clause-read
returns-in_err-pass-2-clause-read g c = grind (arith, common_steps)

pub returns-in_err-diffs-2-clause-read : goal.returns-in_err-diffs-2-clause-read
returns-in_err-diffs-2-clause-read g c = grind (arith, common_steps)

pub returns-then-front-eq100-clause-read : goal.returns-then-front-eq100-clause-read
returns-then-front-eq100-clause-read g c = grind (arith, common_steps)

pub returns-then-front-eq100-clause-known : goal.returns-then-front-eq100-clause-known
returns-then-front-eq100-clause-known g c = grind (arith, common_steps)
