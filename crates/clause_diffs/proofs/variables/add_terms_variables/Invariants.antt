use Rattle.std.proofs.Common.{◌≡◌, ◌++◌, take, flat_map}
use Rattle.clause_diffs.proofs.Counting.{leaves_at}
use Rattle.clause_diffs.proofs.variables.add_terms_variables.Given as goal

abbrev pub invariant-loop-term : goal.invariant-loop-term
invariant-loop-term g l = l.numbers.items ≡ l.fn.numbers.items ++ flat_map (leaves_at (g.B.Bank.trees l.bank)) (take l.term-index l.terms)
