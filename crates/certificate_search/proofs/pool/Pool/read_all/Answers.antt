use Rattle.std.proofs.Common.{◌≡◌, List, sym, subst, rules}
use Rattle.clause_form.specs.Seen.{AreClausesIn, IdClause}
use Rattle.certificate_search.proofs.Fitting.{all_known}
use Rattle.certificate_search.proofs.pool.Pool.read_all.Goals as goal

pub read_clauses-requires : goal.read_clauses-requires
read_clauses-requires c =
    let all = c.self.inside.bank in
    let same : c.deref.result.now ≡ c.in_ok-copied.copied = search rules in
    subst (λ (cs : List IdClause). AreClausesIn all cs) (sym same) (all_known all c.in_ok-copied.copied (c.in_ok-copied.ensures all c.self.invariant))
