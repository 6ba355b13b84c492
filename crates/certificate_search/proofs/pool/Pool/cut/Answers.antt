use Rattle.certificate_search.proofs.pool.Pool.cut.Goals as goal

pub invariant_of-self : goal.invariant_of-self
invariant_of-self c = c.cut_fit.ensures c.self.inside.bank c.self.invariant
