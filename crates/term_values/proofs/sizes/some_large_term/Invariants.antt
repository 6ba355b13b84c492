use Rattle.std.proofs.Common.{◌≡◌, map, drop}
use Rattle.std.specs.List.{list_any}
use Rattle.spec_calculus.specs.Values.{values_of}
use Rattle.spec_calculus.specs.Limits.{is_large}
use Rattle.pi_tree.specs.Terms.{term_of}
use Rattle.term_values.proofs.sizes.some_large_term.Given as goal

abbrev pub invariant-loop-term : goal.invariant-loop-term
invariant-loop-term l =
    list_any is_large (values_of l.environment (map term_of (drop l.term-index l.term-items))) ≡ list_any is_large (values_of l.environment (map term_of l.term-items))
