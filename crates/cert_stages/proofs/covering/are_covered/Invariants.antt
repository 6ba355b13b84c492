use Rattle.std.proofs.Common.{drop}
use Rattle.spec_certificates.specs.Certificate.{CoverRowHolds, numbered_from}
use Rattle.clause_form.specs.Fit.{clauses_at}
use Rattle.cert_stages.proofs.Walking.{IsWalked}
use Rattle.cert_stages.proofs.covering.are_covered.Given as goal

abbrev pub invariant-each : goal.invariant-each
invariant-each g l =
    IsWalked (CoverRowHolds (clauses_at (g.B.Bank.trees l.bank) l.checker.clauses.now)) (numbered_from 1 (clauses_at (g.B.Bank.trees l.bank) l.clauses)) l.checker.rows.now l.from
    (drop l.k (numbered_from 1 (clauses_at (g.B.Bank.trees l.bank) l.clauses))) l.next
