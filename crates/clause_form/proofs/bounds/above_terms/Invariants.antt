use Rattle.std.proofs.Common.{◌≡◌, max, take, flat_map}
use Rattle.clause_form.specs.Bounds.{above}
use Rattle.clause_diffs.proofs.Counting.{leaves_at}
use Rattle.clause_form.proofs.bounds.above_terms.Given as goal

abbrev pub invariant-loop-term : goal.invariant-loop-term
invariant-loop-term g l = l.found ≡ max l.least (above (flat_map (leaves_at (g.B.Bank.trees l.bank)) (take l.term-index l.terms)))
