-- What the parts of a private declaration give, it gives.
use Rattle.std.proofs.Common.{arith}
use Rattle.std.proofs.lemmas.Grind.{common_steps}
use Rattle.pi_parser.proofs.declarations.private.Goals as goal

pub returns-in_ok-name-clause-read : goal.returns-in_ok-name-clause-read
returns-in_ok-name-clause-read c = grind (arith, common_steps)

pub returns-in_ok-name-2-clause-read : goal.returns-in_ok-name-2-clause-read
returns-in_ok-name-2-clause-read c = grind (arith, common_steps)

pub returns-in_err-name-clause-read : goal.returns-in_err-name-clause-read
returns-in_err-name-clause-read c = grind (arith, common_steps)

pub returns-in_err-name-2-clause-read : goal.returns-in_err-name-2-clause-read
returns-in_err-name-2-clause-read c = grind (arith, common_steps)

pub names-requires : goal.names-requires
names-requires c = grind (arith, common_steps)
