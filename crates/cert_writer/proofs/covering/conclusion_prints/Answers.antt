use Rattle.clause_form.proofs.Fit.{clause_fit_at}
use Rattle.cert_writer.proofs.Prints.{print_more, prints_all}
use Rattle.cert_writer.proofs.covering.conclusion_prints.Goals as goal

pub conclusion_fingerprint-requires : goal.conclusion_fingerprint-requires
conclusion_fingerprint-requires g c = clause_fit_at (g.B.Bank.trees c.args.bank.now) c.args.clauses.now c.each.clause-index c.clause-item.result c.clause-item.is c.requires c.each-test.true

pub each-preserved : goal.each-preserved
each-preserved g c =
    print_more (g.B.Bank.trees c.args.bank.now) c.args.clauses.now c.each.clause-index c.clause-item.result c.each.prints.items c.push.new.self.items c.conclusion_fingerprint.result c.each.invariant c.each-test.true c.clause-item.is c.in_ok-push.ensures.items c.conclusion_fingerprint.ensures

pub returns : goal.returns
returns g c = prints_all (g.B.Bank.trees c.args.bank.now) c.args.clauses.now c.each.clause-index c.each.prints.items c.each.invariant c.each-test.false
