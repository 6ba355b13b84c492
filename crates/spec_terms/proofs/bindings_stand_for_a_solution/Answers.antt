use Rattle.spec_terms.proofs.Resolve.{resolved-solves, resolved-factor, resolved-unbound, resolved-free}
use Rattle.spec_terms.proofs.Loops.{NeverLeadsBack-sound}
use Rattle.spec_terms.proofs.bindings_stand_for_a_solution.Goals as goal

pub returns-clause-solves : goal.returns-clause-solves
returns-clause-solves c = λ bs ready. resolved-solves bs (NeverLeadsBack-sound bs ready)

pub returns-clause-most : goal.returns-clause-most
returns-clause-most c = λ bs s h. (s, resolved-factor s bs h)

pub returns-clause-unbound : goal.returns-clause-unbound
returns-clause-unbound c = resolved-unbound

pub returns-clause-bound : goal.returns-clause-bound
returns-clause-bound c = λ bs ready x t e y. resolved-free bs (NeverLeadsBack-sound bs ready) x t e y
