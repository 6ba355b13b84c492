use Rattle.std.proofs.Common.{ℕ, List, map, Vec, Global, ap, sym, subst, rc_value}
use Rattle.clause_form.specs.Seen.{AreClausesIn, IdClause}
use Rattle.cert_writer.proofs.KeptRows.{none_kept, live_known}
use Rattle.cert_writer.proofs.known.known_rows.Goals as goal

pub returns : goal.returns
returns c = λ all given names. none_kept all _ (subst (λ (cs : List IdClause). AreClausesIn all cs) (sym c.in_ok-live.ensures) (live_known all c.args.log.now names)) given c.new.ensures.items (ap (map (λ (row : Vec ℕ Global). row.items)) c.new-2.ensures.items) (ap (map rc_value) c.new-3.ensures.items)
