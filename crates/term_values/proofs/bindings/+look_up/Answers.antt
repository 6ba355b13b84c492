use Rattle.std.proofs.Common.{arith}
use Rattle.std.proofs.lemmas.Grind.{common_steps}
use Rattle.term_values.proofs.Places.{of_places}
use Rattle.term_values.proofs.bindings.+look_up.Goals as goal

pub returns-in-Some : goal.returns-in-Some
returns-in-Some t c = grind (arith, common_steps, of_places)

pub returns-in-None : goal.returns-in-None
returns-in-None t c = grind (arith, common_steps, of_places)
