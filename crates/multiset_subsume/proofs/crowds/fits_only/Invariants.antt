use Rattle.std.proofs.Common.{◌≡◌, ◌<◌, ℕ, false, map, get_or}
use Rattle.clause_form.specs.Facts.{fact_of}
use Rattle.fact_placing.specs.Boards.{IsAsBefore, CannotPut}
use Rattle.multiset_subsume.proofs.crowds.fits_only.Given as goal

abbrev pub invariant-each : goal.invariant-each
invariant-each g l = record {
  same : IsAsBefore l.fn.placing.binds.pairs l.placing.binds.pairs l.fn.placing.taken.items l.placing.taken.items;
  never : (q : ℕ) → q < l.p → get_or l.area q false ≡ false → CannotPut (g.B.Bank.trees l.board.bank.now) (map fact_of l.board.hyps.now) l.fn.placing.binds.pairs l.fn.placing.taken.items (fact_of l.fact) q;
}
