use Rattle.clause_form.proofs.Fit.{AreFit-grow}
use Rattle.certificate_search.proofs.pool.Pool.meets.Goals as goal

pub invariant_of-self : goal.invariant_of-self
invariant_of-self c = AreFit-grow c.self.inside.bank c.meets.new.bank c.self.inside.clauses c.meets.ensures.grows c.self.invariant
