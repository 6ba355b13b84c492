use Rattle.std.proofs.Common.{◌≡◌, ◌∙◌, List, sym, ap, subst, rules}
use Rattle.term_tree.proofs.BankLaws.{Grows_same, Grows_trans}
use Rattle.spec_certificates.specs.Certificate.{numbers_for}
use Rattle.spec_certificates.specs.Ruling.{IsRuledBy}
use Rattle.pi_tree.specs.Protocols.{protocol_of}
use Rattle.clause_form.specs.Fit.{clauses_at}
use Rattle.clause_form.specs.Seen.{AreClausesIn, IdClause}
use Rattle.cert_checker.proofs.Standing.{ruled_whole}
use Rattle.cert_checker.proofs.checking.check_copied.Goals as goal

pub check_claim-requires-clause-known : goal.check_claim-requires-clause-known
check_claim-requires-clause-known g c =
    let all = g.B.Bank.trees c.copied.new.bank in
    let same : c.deref.result.now ≡ c.in_ok-clauses.clauses = search rules in
    subst (λ (cs : List IdClause). AreClausesIn all cs) (sym same) c.in_ok-clauses.ensures.names.known

pub returns-clause-ruled : goal.returns-clause-ruled
returns-clause-ruled g c =
    let P = protocol_of c.args.protocol.now in
    let all = g.B.Bank.trees c.copied.new.bank in
    let same : c.deref.result.now ≡ c.in_ok-clauses.clauses = search rules in
    ruled_whole (λ q cert ruling. IsRuledBy (numbers_for cert.clauses c.args.placed.now.said.now) P q cert ruling) P c.args.query c.args.placed.now.cert.now c.cert.inside.rows c.cert.inside.goals _ c.cert.inside.clauses c.check_claim.result (ap (clauses_at all) same ∙ c.in_ok-clauses.ensures.names.are) c.cert.view_is
    c.check_claim.ensures.ruled

pub returns-clause-grows : goal.returns-clause-grows
returns-clause-grows g c =
    let old = g.B.Bank.trees c.args.bank.now in
    let all = g.B.Bank.trees c.copied.new.bank in
    let new = g.B.Bank.trees c.check_claim.new.bank in
    Grows_trans old all new c.copied.ensures.grows (Grows_same all new c.check_claim.ensures.bank)
