use Rattle.std.proofs.Common.{ℕ, ◌<◌, ◌+◌, ◌*◌, map, length}
use Rattle.clause_form.specs.Facts.{fact_of}
use Rattle.fact_placing.specs.Boards.{IsAsBefore, CanStandOn}
use Rattle.multiset_subsume.proofs.search.+placing.Given as goal

abbrev pub decreases-can_place : goal.decreases-can_place
decreases-can_place g l = 4 * length l.unplaced.now + 3

abbrev pub decreases-place_some : goal.decreases-place_some
decreases-place_some g l = 4 * length l.unplaced.now + 2

abbrev pub decreases-place_beside : goal.decreases-place_beside
decreases-place_beside g l = 4 * length l.rest.now + 5

abbrev pub decreases-can_stand : goal.decreases-can_stand
decreases-can_stand g l = 4 * length l.rest.now + 4

abbrev pub invariant-place_beside-each : goal.invariant-place_beside-each
invariant-place_beside-each g l = record {
  same : IsAsBefore l.fn.placing.binds.pairs l.placing.binds.pairs l.fn.placing.taken.items l.placing.taken.items;
  before : (q : ℕ) → q < l.p → CanStandOn (g.B.Bank.trees l.board.bank.now) (map fact_of l.board.hyps.now) l.board.ending l.fn.placing.binds.pairs l.fn.placing.taken.items (fact_of l.fact) (map (λ f. fact_of f.now) l.rest) q → ⊥;
}
