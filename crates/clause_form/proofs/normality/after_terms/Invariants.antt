use Rattle.std.proofs.Common.{◌≡◌, take, flat_map}
use Rattle.clause_form.specs.Normality.{numbers_after}
use Rattle.clause_diffs.proofs.Counting.{leaves_at}
use Rattle.clause_form.proofs.normality.after_terms.Given as goal

abbrev pub invariant-loop-term : goal.invariant-loop-term
invariant-loop-term g l = l.found ≡ numbers_after l.fn.next (flat_map (leaves_at (g.B.Bank.trees l.bank)) (take l.term-index l.terms))
