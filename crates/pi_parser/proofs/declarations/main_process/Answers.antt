-- What the process gives, the main process gives.
use Rattle.std.proofs.Common.{arith}
use Rattle.std.proofs.lemmas.Grind.{common_steps}
use Rattle.spec_protocol_grammar.specs.Reading.{main_at}
use Rattle.pi_parser.proofs.declarations.main_process.Goals as goal

pub returns-then-fits_at : goal.returns-then-fits_at
unfolding main_at
returns-then-fits_at c = grind (arith, common_steps)

pub returns-else-fits_at : goal.returns-else-fits_at
unfolding main_at
returns-else-fits_at c = grind (arith, common_steps)
