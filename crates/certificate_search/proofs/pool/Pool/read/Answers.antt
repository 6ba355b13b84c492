use Rattle.certificate_search.proofs.pool.Pool.read.Goals as goal

pub read_out-requires : goal.read_out-requires
read_out-requires c = (c.in-Some.ensures c.self.inside.bank c.self.invariant).known
