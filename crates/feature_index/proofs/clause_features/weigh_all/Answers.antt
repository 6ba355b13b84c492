use Rattle.std.proofs.Common.{◌∙◌, ◌+◌, ap}
use Rattle.clause_form.proofs.Walks.{fact_known_at}
use Rattle.feature_index.specs.Lanes.{told}
use Rattle.feature_index.proofs.Counting.{told_more}
use Rattle.feature_index.proofs.Weighing.{weight_at, all_weighed}
use Rattle.feature_index.proofs.clause_features.weigh_all.Goals as goal

pub weigh-found-requires : goal.weigh-found-requires
weigh-found-requires g c = fact_known_at (g.B.Bank.trees c.args.bank.now) c.args.hyps.now c.loop-hyp.hyp-index c.hyp-item.result c.hyp-item.is c.requires c.loop-hyp-test.true

pub loop-hyp-preserved : goal.loop-hyp-preserved
loop-hyp-preserved g c =
    let weight = weight_at (g.B.Bank.trees c.args.bank.now) c.args.lane in
    told_more weight c.args.hyps.now c.loop-hyp.hyp-index c.hyp-item.result 0 c.loop-hyp.found c.weigh-found.result c.loop-hyp-test.true c.loop-hyp.invariant
    (c.weigh-found.ensures ∙ ap (λ f. told (c.loop-hyp.found + weight f)) c.hyp-item.is)

pub returns : goal.returns
returns g c = all_weighed (g.B.Bank.trees c.args.bank.now) c.args.lane c.args.hyps.now c.loop-hyp.hyp-index c.loop-hyp.found c.loop-hyp-test.false c.loop-hyp.invariant
