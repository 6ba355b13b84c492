use Rattle.std.proofs.Common.{◌↔◌, List, ℕ, sym, subst}
use Rattle.std.specs.Prelude.{IsTrue, IfOk}
use Rattle.spec_certificates.specs.Certificate.{CoverRowHolds}
use Rattle.clause_form.specs.Seen.{clause_at}
use Rattle.clause_form.specs.Fit.{clauses_at}
use Rattle.cert_stages.proofs.covering.covers.Goals as goal

pub returns-in-Some : goal.returns-in-Some
returns-in-Some g c =
    let all = g.B.Bank.trees c.args.bank.now in
    subst (λ (row : List ℕ). IfOk c.covers_at.result (λ yes. IsTrue yes ↔ CoverRowHolds (clauses_at all c.args.checker.now.clauses.now) row (clause_at all c.args.clause.now))) (sym c.in-Some.ensures.cases.0) c.covers_at.ensures
