use Rattle.std.proofs.Common.{◌≡◌, ◌++◌, length, map, drop, option_map}
use Rattle.spec_trees.specs.Tree.{trees}
use Rattle.spec_calculus.specs.Matching.{matched_row}
use Rattle.pi_tree.specs.Patterns.{pattern_of}
use Rattle.pi_tree.specs.Values.{value_of}
use Rattle.term_values.proofs.matching.+matches.Given as goal

abbrev pub invariant-all_match-loop-index : goal.invariant-all_match-loop-index
invariant-all_match-loop-index l = record {
  lengths : length l.pattern-items ≡ length l.values;
  rest : option_map (λ bs. l.bindings ++ bs) (matched_row l.environment (trees (map pattern_of (drop l.index l.pattern-items))) (trees (map value_of (drop l.index l.values))))
      ≡ option_map (λ bs. l.initial.bindings ++ bs) (matched_row l.environment (trees (map pattern_of l.pattern-items)) (trees (map value_of l.values)));
}
