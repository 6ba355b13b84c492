use Rattle.certificate_search.proofs.pool.Pool.looks.Goals as goal

pub features-requires-clause-known : goal.features-requires-clause-known
features-requires-clause-known c = (c.in_ok-clause.ensures c.self.inside.bank c.self.invariant).known
