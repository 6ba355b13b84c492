use Rattle.std.proofs.Common.{◌≤◌, map, take}
use Rattle.unify_match.specs.Seen.{seen}
use Rattle.clause_form.specs.Facts.{fact_of}
use Rattle.spec_placements.specs.Crowds.{AreConfined}
use Rattle.fact_placing.specs.Boards.{facts_at, IsAsBefore}
use Rattle.multiset_subsume.proofs.crowds.count_confined.Given as goal

abbrev pub invariant-each : goal.invariant-each
invariant-each g l = record {
  same : IsAsBefore l.fn.placing.binds.pairs l.placing.binds.pairs l.fn.placing.taken.items l.placing.taken.items;
  few : l.count ≤ l.fact-index;
  confined : AreConfined (seen (g.B.Bank.trees l.board.bank.now) l.fn.placing.binds.pairs) l.fn.placing.taken.items (facts_at (g.B.Bank.trees l.board.bank.now) (map fact_of l.board.hyps.now)) l.area (facts_at (g.B.Bank.trees l.board.bank.now) (map (λ f. fact_of f.now) (take l.fact-index l.unplaced))) l.count;
}
