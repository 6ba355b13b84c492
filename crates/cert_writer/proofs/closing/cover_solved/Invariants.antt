use Rattle.std.proofs.Common.{◌≡◌, ℕ, List, take}
use Rattle.spec_certificates.specs.Certificate.{numbered_from}
use Rattle.clause_form.specs.Seen.{clause_at}
use Rattle.clause_form.specs.Fit.{clauses_at}
use Rattle.cert_writer.specs.Adding.{AddsPairs, pairs_of_one}
use Rattle.cert_writer.proofs.Unsolved.{AreReached}
use Rattle.cert_writer.proofs.closing.cover_solved.Given as goal

abbrev pub invariant-each : goal.invariant-each
invariant-each g l = record {
  bank : g.B.Bank.trees l.bank ≡ g.B.Bank.trees l.fn.bank;
  rows : (i : ℕ) (first : List (List ℕ)) → AddsPairs (clauses_at (g.B.Bank.trees l.fn.bank) l.writer.live.now)
      (pairs_of_one i (clause_at (g.B.Bank.trees l.fn.bank) l.solving.clause.now) (take l.solving.from (numbered_from 1 (clauses_at (g.B.Bank.trees l.fn.bank) l.writer.live.now)))) first l.fn.rows
      → AreReached (clauses_at (g.B.Bank.trees l.fn.bank) l.writer.live.now) i (clause_at (g.B.Bank.trees l.fn.bank) l.solving.clause.now) first l.solving.unsolved.places.now l.solving.from l.solving.to l.place-index l.rows;
}
