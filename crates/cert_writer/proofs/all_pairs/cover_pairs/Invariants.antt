use Rattle.std.proofs.Common.{◌≡◌, take}
use Rattle.spec_certificates.specs.Certificate.{numbered_from, pairs_of}
use Rattle.clause_form.specs.Fit.{clauses_at}
use Rattle.cert_writer.specs.Adding.{AddsPairs}
use Rattle.cert_writer.proofs.all_pairs.cover_pairs.Given as goal

abbrev pub invariant-each : goal.invariant-each
invariant-each g l = record {
  bank : g.B.Bank.trees l.bank ≡ g.B.Bank.trees l.fn.bank;
  rows : AddsPairs (clauses_at (g.B.Bank.trees l.fn.bank) l.writer.live.now)
      (pairs_of (take l.place (numbered_from 1 (clauses_at (g.B.Bank.trees l.fn.bank) l.writer.live.now))) (numbered_from 1 (clauses_at (g.B.Bank.trees l.fn.bank) l.writer.live.now))) l.fn.rows l.rows;
}
