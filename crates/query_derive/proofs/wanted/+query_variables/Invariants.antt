use Rattle.std.proofs.Common.{◌≡◌, ◌++◌, drop}
use Rattle.query_derive.proofs.Converting.{variables_in}
use Rattle.query_derive.proofs.wanted.+query_variables.Given as goal

abbrev pub invariant-add_all_variables-loop-term : goal.invariant-add_all_variables-loop-term
invariant-add_all_variables-loop-term l = l.numbers.items ++ variables_in (drop l.term-index l.term-items) ≡ l.fn.numbers.items ++ variables_in l.term-items
