use Rattle.certificate_search.proofs.pool.Pool.gives_everything.Goals as goal

pub gives_all-requires : goal.gives_all-requires
gives_all-requires c = (c.in-Some.ensures c.self.inside.bank c.self.invariant).known
