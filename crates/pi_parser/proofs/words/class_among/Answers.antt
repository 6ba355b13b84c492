-- An entry that doesn't fit is passed.
use Rattle.std.proofs.Common.{arith}
use Rattle.std.proofs.lemmas.Grind.{common_steps}
use Rattle.pi_parser.proofs.words.class_among.Goals as goal

pub entries-preserved : goal.entries-preserved
entries-preserved c = grind (arith, common_steps)
