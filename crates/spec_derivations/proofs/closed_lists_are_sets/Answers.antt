use Rattle.spec_derivations.proofs.Closing.{closes_same}
use Rattle.spec_derivations.proofs.closed_lists_are_sets.Goals as goal

pub returns : goal.returns
returns c = λ given clauses others same. closes_same given clauses others (λ c. (same c).0) (λ c. (same c).1)
