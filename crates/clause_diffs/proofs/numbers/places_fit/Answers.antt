use Rattle.clause_diffs.proofs.Ordering.{places_below}
use Rattle.clause_diffs.proofs.numbers.places_fit.Goals as goal

pub returns : goal.returns
returns c = places_below 4294967296 c.args.numbers.now (λ k. (c.type_inv.numbers k).fits)
