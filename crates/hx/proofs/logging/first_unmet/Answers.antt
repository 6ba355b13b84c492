-- What the writer of certificates answers of the closed log.
use Rattle.std.proofs.Common.{subst, arith}
use Rattle.cert_writer.specs.declared.certified.Certified.{Certified}
use Rattle.cert_writer.specs.Certifying.{IsVerdictOf}
use Rattle.query_verify.proofs.Answering.{named_translation}
use Rattle.query_verify.proofs.Telling.{tell_length}
use Rattle.hx.specs.Logged.{protocol_at}
use Rattle.hx.proofs.logging.first_unmet.Goals as goal

pub certify-requires-clause-translation : goal.certify-requires-clause-translation
certify-requires-clause-translation g c = named_translation (protocol_at c.args.asked.now) c.args.asked.now.query (g.B.Bank.trees c.args.bank.now) c.args.given.now c.requires.given

pub certify-requires-clause-few : goal.certify-requires-clause-few
certify-requires-clause-few g c =
    let many = tell_length (g.B.Bank.trees c.args.bank.now) c.args.log.now c.requires.log.log c.requires.log.tell in
    omega (arith, many, c.requires.log.is_log.within, c.requires.asked.budget)

pub returns-in-Cert-clause-found : goal.returns-in-Cert-clause-found
returns-in-Cert-clause-found g c = λ q there.
    (c.in-Cert.cert, subst (λ (x : Certified). IsVerdictOf (protocol_at c.args.asked.now) q c.args.asked.now.budget (g.B.Bank.trees c.args.bank.now) c.args.log.now x) c.in-Cert.is (c.in_ok-cert.ensures.verdict q there c.args.asked.now.budget c.requires.log))

pub returns-in-Unsatisfied-clause-found : goal.returns-in-Unsatisfied-clause-found
returns-in-Unsatisfied-clause-found g c = λ q there.
    subst (λ (x : Certified). IsVerdictOf (protocol_at c.args.asked.now) q c.args.asked.now.budget (g.B.Bank.trees c.args.bank.now) c.args.log.now x) c.in-Unsatisfied.is (c.in_ok-cert.ensures.verdict q there c.args.asked.now.budget c.requires.log)
