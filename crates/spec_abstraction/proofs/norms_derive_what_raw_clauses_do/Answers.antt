use Rattle.spec_abstraction.proofs.Listed.{taken_derive}
use Rattle.spec_abstraction.proofs.norms_derive_what_raw_clauses_do.Goals as goal

pub returns : goal.returns
returns c = λ all events facts d. taken_derive all events d
