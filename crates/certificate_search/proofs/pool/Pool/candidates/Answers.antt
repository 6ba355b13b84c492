use Rattle.certificate_search.proofs.pool.Pool.candidates.Goals as goal

pub candidates-requires : goal.candidates-requires
candidates-requires c = (c.in-Some.ensures c.self.inside.bank c.self.invariant).known
