use Rattle.clause_form.proofs.Fit.{clause_fit_at}
use Rattle.fact_fingerprint.proofs.Telling.{print_more, prints_all}
use Rattle.fact_fingerprint.proofs.fingerprints.hypothesis_fingerprints.Goals as goal

pub hypothesis_fingerprint-requires : goal.hypothesis_fingerprint-requires
hypothesis_fingerprint-requires g c = clause_fit_at (g.B.Bank.trees c.args.bank.now) c.args.clauses.now c.each.clause-index c.clause-item.result c.clause-item.is c.requires c.each-test.true

pub each-preserved : goal.each-preserved
each-preserved g c =
    print_more (g.B.Bank.trees c.args.bank.now) c.args.clauses.now c.each.clause-index c.clause-item.result c.each.prints.items c.push.new.self.items c.hypothesis_fingerprint.result c.each.invariant c.each-test.true c.clause-item.is c.in_ok-push.ensures.items c.hypothesis_fingerprint.ensures

pub returns : goal.returns
returns g c = prints_all (g.B.Bank.trees c.args.bank.now) c.args.clauses.now c.each.clause-index c.each.prints.items c.each.invariant c.each-test.false
