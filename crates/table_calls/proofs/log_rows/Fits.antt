-- Clauses that can be saturated, one more.
use Rattle.std.proofs.Common.{List, [], ◌∷◌, ◌++◌}
use Rattle.spec_terms.specs.Term.{Term}
use Rattle.clause_form.specs.Fit.{IsFit, AreFit}
use Rattle.clause_form.specs.Seen.{IdClause}

pub AreFit-push : (all : List Term) (cs : List IdClause) (c : IdClause) → AreFit all cs → IsFit all c → AreFit all (cs ++ c ∷ [])
AreFit-push all [] c fit last = (last, tt)
AreFit-push all (d ∷ cs) c fit last = (fit.0, AreFit-push all cs c fit.1 last)
