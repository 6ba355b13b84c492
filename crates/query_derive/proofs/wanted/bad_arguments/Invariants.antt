use Rattle.std.proofs.Common.{◌≡◌, map, take}
use Rattle.spec_calculus.specs.Syntax.{Variable}
use Rattle.spec_translation.specs.Goal.{query_leaf}
use Rattle.clause_form.specs.Plain.{term_of as tree_term}
use Rattle.query_derive.proofs.wanted.bad_arguments.Given as goal

abbrev pub invariant-loop-number : goal.invariant-loop-number
invariant-loop-number l = map tree_term l.items.items ≡ map (λ i. query_leaf (Variable i)) (take l.number-index l.number-items)
