use Rattle.std.proofs.Common.{arith}
use Rattle.std.proofs.lemmas.Grind.{common_steps}
use Rattle.query_violations.proofs.Searching.{of_items}
use Rattle.query_violations.proofs.alternatives.event_at.Goals as goal

pub index-requires : goal.index-requires
index-requires c = grind (arith, common_steps, of_items)
