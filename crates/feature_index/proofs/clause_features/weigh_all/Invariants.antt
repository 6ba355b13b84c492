use Rattle.std.proofs.Common.{◌≡◌, ◌+◌, take}
use Rattle.spec_clauses.specs.Fact.{total}
use Rattle.feature_index.specs.Lanes.{told}
use Rattle.feature_index.proofs.Weighing.{weight_at}
use Rattle.feature_index.proofs.clause_features.weigh_all.Given as goal

abbrev pub invariant-loop-hyp : goal.invariant-loop-hyp
invariant-loop-hyp g l = l.found ≡ told (0 + total (weight_at (g.B.Bank.trees l.bank) l.lane) (take l.hyp-index l.hyps))
