use Rattle.std.proofs.Common.{◌≡◌, ◌∙◌, List, sym, ap, subst, rules}
use Rattle.spec_certificates.specs.Certificate.{numbers_for}
use Rattle.spec_certificates.specs.Ruling.{IsRuledBy}
use Rattle.pi_tree.specs.Protocols.{protocol_of}
use Rattle.clause_form.specs.Fit.{clauses_at}
use Rattle.clause_form.specs.Seen.{AreClausesIn, IdClause}
use Rattle.cert_checker.proofs.Standing.{ruled_whole}
use Rattle.cert_checker.proofs.checking.check_over.Goals as goal

pub check_claim-requires-clause-known : goal.check_claim-requires-clause-known
check_claim-requires-clause-known c =
    let same : c.deref.result.now ≡ c.apart-bank.result.1 = search rules in
    subst (λ (cs : List IdClause). AreClausesIn c.apart-bank.result.0 cs) (sym same) c.apart-bank.ensures.known

pub returns : goal.returns
returns c =
    let P = protocol_of c.args.protocol.now in
    let same : c.deref.result.now ≡ c.apart-bank.result.1 = search rules in
    ruled_whole (λ q cert ruling. IsRuledBy (numbers_for cert.clauses c.args.said.now) P q cert ruling) P c.args.query c.args.cert c.cert.inside.rows c.cert.inside.goals _ c.cert.inside.clauses c.check_claim.result (ap (clauses_at c.apart-bank.result.0) same ∙ c.apart-bank.ensures.are) c.cert.view_is c.check_claim.ensures.ruled
