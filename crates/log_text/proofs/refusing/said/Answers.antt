use Rattle.std.proofs.Common.{arith}
use Rattle.std.proofs.lemmas.Grind.{common_steps}
use Rattle.log_text.proofs.refusing.said.Goals as goal

pub known_at-requires : goal.known_at-requires
known_at-requires c = grind (arith, common_steps)
