use Rattle.std.proofs.Common.{arith}
use Rattle.std.proofs.lemmas.Grind.{common_steps}
use Rattle.fact_reader.proofs.facts.read_conclusion.Goals as goal

pub returns-else-first-eq116-clause-read : goal.returns-else-first-eq116-clause-read
returns-else-first-eq116-clause-read g c = grind (arith, common_steps)

pub returns-then-first-eq116-clause-read : goal.returns-then-first-eq116-clause-read
returns-then-first-eq116-clause-read g c = grind (arith, common_steps)

pub returns-then-first-eq98-clause-read : goal.returns-then-first-eq98-clause-read
returns-then-first-eq98-clause-read g c = grind (arith, common_steps)

pub returns-then-first-eq101-clause-read : goal.returns-then-first-eq101-clause-read
returns-then-first-eq101-clause-read g c = grind (arith, common_steps)

pub returns-then-first-eq109-clause-read : goal.returns-then-first-eq109-clause-read
returns-then-first-eq109-clause-read g c = grind (arith, common_steps)
