use Rattle.std.proofs.Common.{ap}
use Rattle.clause_form.specs.Facts.{fact_of}
use Rattle.clause_form.specs.Seen.{IdClause}
use Rattle.feature_index.proofs.Weighing.{conclusion_fits}
use Rattle.feature_index.proofs.clause_features.concluded.Goals as goal

pub overflow_cast-result : goal.overflow_cast-result
overflow_cast-result g c = record { fits = (conclusion_fits (g.B.Bank.trees c.args.bank.now) c.args.clause.now (fact_of c.clause.inside.concl) c.symbols_of_fact.result c.requires.small (ap (λ (x : IdClause). x.conclusion) c.clause.view_is) c.symbols_of_fact.ensures).fits }

pub returns : goal.returns
returns g c = (conclusion_fits (g.B.Bank.trees c.args.bank.now) c.args.clause.now (fact_of c.clause.inside.concl) c.symbols_of_fact.result c.requires.small (ap (λ (x : IdClause). x.conclusion) c.clause.view_is) c.symbols_of_fact.ensures).is
