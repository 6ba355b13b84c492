use Rattle.std.proofs.Common.{ℕ, map, take, Vec, Global}
use Rattle.clause_form.specs.Fit.{clauses_at}
use Rattle.cert_writer.specs.Adding.{AddsRows}
use Rattle.cert_writer.proofs.covering.cover_all.Given as goal

abbrev pub invariant-each : goal.invariant-each
invariant-each g l =
    AddsRows (clauses_at (g.B.Bank.trees l.bank) l.writer.live.now) (take l.clause-index (clauses_at (g.B.Bank.trees l.bank) l.clauses)) l.fn.rows (map (λ (row : Vec ℕ Global). row.items) l.rows-inside.items.items)
