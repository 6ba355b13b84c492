-- Each kind of declaration adds its names.
use Rattle.std.proofs.Common.{arith}
use Rattle.std.proofs.lemmas.Grind.{common_steps}
use Rattle.scope_declarations.proofs.declarations.declare.Goals as goal

pub returns-in_ok-declare_free-in-Free-clause-read : goal.returns-in_ok-declare_free-in-Free-clause-read
returns-in_ok-declare_free-in-Free-clause-read c = grind (arith, common_steps)

pub returns-in-Fun-clause-read : goal.returns-in-Fun-clause-read
returns-in-Fun-clause-read c = grind (arith, common_steps)

pub returns-in-Data-clause-read : goal.returns-in-Data-clause-read
returns-in-Data-clause-read c = grind (arith, common_steps)

pub returns-in-Reduc-clause-read : goal.returns-in-Reduc-clause-read
returns-in-Reduc-clause-read c = grind (arith, common_steps)

pub returns-in-Event-clause-read : goal.returns-in-Event-clause-read
returns-in-Event-clause-read c = grind (arith, common_steps)

pub returns-in-Table-clause-read : goal.returns-in-Table-clause-read
returns-in-Table-clause-read c = grind (arith, common_steps)

pub returns-in-Query-clause-read : goal.returns-in-Query-clause-read
returns-in-Query-clause-read c = grind (arith, common_steps)

pub returns-in-Definition-clause-read : goal.returns-in-Definition-clause-read
returns-in-Definition-clause-read c = grind (arith, common_steps)
