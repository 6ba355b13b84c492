use Rattle.clause_form.proofs.Fit.{clause_fit_at}
use Rattle.attack_candidates.proofs.resolving.add_all.Goals as goal

pub add_new-requires-clause-clause : goal.add_new-requires-clause-clause
add_new-requires-clause-clause c = clause_fit_at c.args.bank.now c.args.clauses.now c.each.i c.index-clauses-i.result c.index-clauses-i.is c.requires.clauses c.each-test.true
