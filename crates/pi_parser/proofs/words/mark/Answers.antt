-- A word of another class than the end stands there.
use Rattle.std.proofs.Common.{arith}
use Rattle.std.proofs.lemmas.Grind.{common_steps}
use Rattle.pi_parser.proofs.words.mark.Goals as goal

pub returns-then-fits_at-clause-within : goal.returns-then-fits_at-clause-within
returns-then-fits_at-clause-within c = grind (arith, common_steps)
