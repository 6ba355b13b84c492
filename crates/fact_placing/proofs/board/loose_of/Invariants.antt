use Rattle.std.proofs.Common.{◌≡◌, ◌++◌, map, drop}
use Rattle.spec_placements.specs.Placing.{loose_variables}
use Rattle.clause_form.specs.Facts.{fact_of}
use Rattle.clause_form.specs.Seen.{fact_at}
use Rattle.fact_placing.specs.Boards.{facts_at, loose_seen}
use Rattle.fact_placing.proofs.board.loose_of.Given as goal

abbrev pub invariant-loop-hyp : goal.invariant-loop-hyp
invariant-loop-hyp g l = map loose_seen l.found.items ++ loose_variables (map (λ f. fact_at (g.B.Bank.trees l.bank) (fact_of f)) (drop l.hyp-index l.hyps)) ≡ loose_variables (facts_at (g.B.Bank.trees l.bank) (map fact_of l.hyps))
