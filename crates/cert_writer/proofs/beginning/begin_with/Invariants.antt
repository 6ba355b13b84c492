use Rattle.std.proofs.Common.{◌≡◌, ◌≤◌, length, take}
use Rattle.clause_form.specs.Fit.{clauses_at}
use Rattle.cert_writer.proofs.beginning.begin_with.Given as goal

abbrev pub invariant-each : goal.invariant-each
invariant-each g l = record {
  within : l.i ≤ length l.front;
  same : take l.i (clauses_at (g.B.Bank.trees l.bank) l.live) ≡ take l.i (clauses_at (g.B.Bank.trees l.bank) l.front);
}
