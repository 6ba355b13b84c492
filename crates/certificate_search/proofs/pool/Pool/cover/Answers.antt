use Rattle.certificate_search.proofs.pool.Pool.cover.Goals as goal

pub cover_row-requires-clause-general : goal.cover_row-requires-clause-general
cover_row-requires-clause-general c = (c.in-Some.ensures c.self.inside.bank c.self.invariant).known

pub cover_row-requires-clause-special : goal.cover_row-requires-clause-special
cover_row-requires-clause-special c = (c.in-Some-clause_at.ensures c.self.inside.bank c.self.invariant).known
