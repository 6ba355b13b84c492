use Rattle.std.proofs.Common.{◌≡◌, ◌<◌, ℕ, Some, map}
use Rattle.std.specs.Prelude.{slice_get}
use Rattle.spec_terms.specs.Term.{Subst}
use Rattle.spec_clauses.specs.Fact.{fact_under}
use Rattle.clause_form.specs.Facts.{fact_of}
use Rattle.clause_form.specs.Seen.{fact_at}
use Rattle.fact_placing.specs.Boards.{facts_at}
use Rattle.multiset_subsume.proofs.quick.some_may_match.Given as goal

abbrev pub invariant-each : goal.invariant-each
invariant-each g l = (q : ℕ) → q < l.hyp-index → (s : Subst) → slice_get (facts_at (g.B.Bank.trees l.bank) (map fact_of l.hyps)) q ≡ Some (fact_under s (fact_at (g.B.Bank.trees l.bank) (fact_of l.fact))) → ⊥
