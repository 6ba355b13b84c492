use Rattle.std.proofs.Common.{◌≡◌, ◌∙◌, map, rules}
use Rattle.spec_clauses.specs.Subsumption.{firm}
use Rattle.clause_form.specs.Facts.{fact_of}
use Rattle.clause_form.specs.Seen.{clause_at}
use Rattle.feature_index.proofs.Weighing.{lane_fits, summed}
use Rattle.feature_index.proofs.clause_features.lane_of.Goals as goal

pub overflow_cast-result : goal.overflow_cast-result
overflow_cast-result g c =
    let same : map fact_of c.deref.result.now ≡ c.args.clause.now.hypotheses = search rules in
    record { fits = (lane_fits (g.B.Bank.trees c.args.bank.now) c.args.clause.now c.args.lane (map fact_of c.deref.result.now) c.weigh_all.result c.requires.small same c.weigh_all.ensures).fits }

pub returns : goal.returns
returns g c =
    let same : map fact_of c.deref.result.now ≡ c.args.clause.now.hypotheses = search rules in
    (lane_fits (g.B.Bank.trees c.args.bank.now) c.args.clause.now c.args.lane (map fact_of c.deref.result.now) c.weigh_all.result c.requires.small same c.weigh_all.ensures).is ∙ summed c.args.lane (firm (clause_at (g.B.Bank.trees c.args.bank.now) c.args.clause.now).hypotheses)
