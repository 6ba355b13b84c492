use Rattle.std.proofs.Common.{◌≡◌, ℕ, ◌<◌, false, Some, map, get_or, slice_get}
use Rattle.spec_clauses.specs.Fact.{Att}
use Rattle.term_tree.specs.Bank.{tree_at}
use Rattle.clause_form.specs.Facts.{fact_of}
use Rattle.fact_placing.specs.Boards.{facts_at}
use Rattle.multiset_subsume.proofs.loose.take_known.Given as goal

abbrev pub invariant-each : goal.invariant-each
invariant-each g l = record {
  same : l.taken ≡ l.fn.taken;
  before : (k : ℕ) → k < l.p → get_or l.fn.taken k false ≡ false → slice_get (facts_at (g.B.Bank.trees l.bank) (map fact_of l.hyps)) k ≡ Some (Att l.phase (tree_at (g.B.Bank.trees l.bank) l.term)) → ⊥;
}
