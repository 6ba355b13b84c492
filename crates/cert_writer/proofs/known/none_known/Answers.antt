use Rattle.std.proofs.Common.{ℕ, List, map, Vec, Global, ap, sym, subst, rc_value}
use Rattle.clause_form.specs.Seen.{AreClausesIn, IdClause}
use Rattle.cert_writer.proofs.KeptRows.{none_kept}
use Rattle.cert_writer.proofs.known.none_known.Goals as goal

pub returns-clause-known : goal.returns-clause-known
returns-clause-known c = λ all. none_kept all _ (subst (λ (cs : List IdClause). AreClausesIn all cs) (sym c.new.ensures.items) tt) (subst (λ (cs : List IdClause). AreClausesIn all cs) (sym c.new-3.ensures.items) tt) c.new-2.ensures.items
    (ap (map (λ (row : Vec ℕ Global). row.items)) c.new-4.ensures.items) (ap (map rc_value) c.new-5.ensures.items)
