use Rattle.spec_derivations.specs.Choice.{all_selected}
use Rattle.spec_soundness.proofs.queries_hold.Goals as goal

pub returns : goal.returns
returns c = λ P q all clauses. c.placed_queries_hold.ensures P q all (all_selected clauses)
