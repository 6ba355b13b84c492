use Rattle.std.proofs.Common.{ℕ, ◌<◌, map}
use Rattle.clause_form.specs.Facts.{fact_of}
use Rattle.fact_placing.specs.Boards.{IsAsBefore, CanStandOn}
use Rattle.multiset_subsume.proofs.covering.least_row.Given as goal

abbrev pub invariant-each : goal.invariant-each
invariant-each g l = record {
  same : IsAsBefore l.fn.placing.binds.pairs l.placing.binds.pairs l.fn.placing.taken.items l.placing.taken.items;
  before : (q : ℕ) → q < l.p → CanStandOn (g.B.Bank.trees l.board.bank.now) (map fact_of l.board.hyps.now) l.board.ending l.fn.placing.binds.pairs l.fn.placing.taken.items (fact_of l.fact) (map (λ f. fact_of f.now) l.rest) q → ⊥;
}
