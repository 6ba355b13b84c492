use Rattle.certificate_search.proofs.pool.Pool.may_rest.Goals as goal

pub may_rest-requires : goal.may_rest-requires
may_rest-requires c = (c.in-Some.ensures c.self.inside.bank c.self.invariant).known
