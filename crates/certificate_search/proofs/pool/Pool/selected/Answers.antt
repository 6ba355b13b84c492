use Rattle.certificate_search.proofs.pool.Pool.selected.Goals as goal

pub selected_of-requires : goal.selected_of-requires
selected_of-requires c = c.in_ok-clause.ensures c.self.inside.bank c.self.invariant
