use Rattle.std.proofs.Common.{arith}
use Rattle.std.proofs.lemmas.Grind.{common_steps}
use Rattle.term_values.proofs.matching.matched_shared.Goals as goal

pub returns-in_ok-bind_shared-in-Bind : goal.returns-in_ok-bind_shared-in-Bind
returns-in_ok-bind_shared-in-Bind c = grind (arith, common_steps)
