use Rattle.std.proofs.Common.{◌≡◌, map, drop}
use Rattle.spec_clauses.specs.Selection.{is_solved}
use Rattle.clause_form.specs.Facts.{fact_of}
use Rattle.clause_form.specs.Seen.{fact_at}
use Rattle.clause_form.proofs.selectable.are_solved.Given as goal

abbrev pub invariant-loop-hyp : goal.invariant-loop-hyp
invariant-loop-hyp g l = is_solved (map (fact_at (g.B.Bank.trees l.bank)) (map fact_of l.hyps)) ≡ is_solved (map (λ f. fact_at (g.B.Bank.trees l.bank) (fact_of f)) (drop l.hyp-index l.hyps))
