use Rattle.spec_terms.proofs.Ground.{ground-has_var, ground-bind}
use Rattle.spec_terms.proofs.ground_terms_stay.Goals as goal

pub returns-clause-none : goal.returns-clause-none
returns-clause-none c t x h = ground-has_var t h x

pub returns-clause-same : goal.returns-clause-same
returns-clause-same c t s h = ground-bind s t h
