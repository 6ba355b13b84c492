use Rattle.std.proofs.Common.{◌≡◌, take, flat_map}
use Rattle.clause_form.specs.Keys.{keyed}
use Rattle.clause_form.proofs.Keying.{numbers_at}
use Rattle.clause_form.proofs.keys.key_of_terms.Given as goal

abbrev pub invariant-loop-term : goal.invariant-loop-term
invariant-loop-term g l = l.found ≡ keyed l.fn.key (flat_map (numbers_at (g.B.Bank.trees l.bank)) (take l.term-index l.terms))
