use Rattle.std.proofs.Common.{◌≡◌, ◌++◌, map, drop}
use Rattle.spec_calculus.specs.Values.{values_of}
use Rattle.pi_tree.specs.Terms.{term_of}
use Rattle.pi_tree.specs.Values.{value_of}
use Rattle.term_values.proofs.evaluation.+evaluate.Given as goal

abbrev pub invariant-evaluate_all-loop-term : goal.invariant-evaluate_all-loop-term
invariant-evaluate_all-loop-term l =
    map value_of l.items.items ++ values_of l.environment (map term_of (drop l.term-index l.term-items)) ≡ values_of l.environment (map term_of l.term-items)
