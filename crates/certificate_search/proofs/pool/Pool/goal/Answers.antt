use Rattle.certificate_search.proofs.pool.Pool.goal.Goals as goal

pub satisfies-requires-clause-known : goal.satisfies-requires-clause-known
satisfies-requires-clause-known c = (c.in-Some.ensures c.self.inside.bank c.self.invariant).known

pub satisfies-requires-clause-small : goal.satisfies-requires-clause-small
satisfies-requires-clause-small c = (c.in-Some.ensures c.self.inside.bank c.self.invariant).small
