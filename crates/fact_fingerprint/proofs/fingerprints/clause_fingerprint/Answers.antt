use Rattle.clause_form.specs.Seen.{clause_at}
use Rattle.fact_fingerprint.proofs.Telling.{print_where, print_else}
use Rattle.fact_fingerprint.proofs.fingerprints.clause_fingerprint.Goals as goal

pub returns-in-Some : goal.returns-in-Some
returns-in-Some g c = print_where (clause_at (g.B.Bank.trees c.args.bank.now) c.args.clause.now) c.hypothesis_fingerprint.result c.in-Some.print c.hypothesis_fingerprint.ensures c.in-Some.is

pub returns-in-None : goal.returns-in-None
returns-in-None g c = print_else (clause_at (g.B.Bank.trees c.args.bank.now) c.args.clause.now) c.hypothesis_fingerprint.result c.conclusion_fingerprint.result c.hypothesis_fingerprint.ensures c.in-None.is c.conclusion_fingerprint.ensures
