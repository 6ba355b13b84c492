use Rattle.std.proofs.Common.{◌≡◌, ◌+◌, ◌*◌, ◌++◌, [], ◌∷◌, length, map, drop, filter_map}
use Rattle.std.specs.List.{list_any}
use Rattle.spec_calculus.specs.Matching.{rule_value}
use Rattle.pi_tree.specs.Rules.{rule_of}
use Rattle.pi_tree.specs.Values.{value_of}
use Rattle.term_values.specs.Instructions.{instruction_of}
use Rattle.term_values.specs.Searching.{some_end, passes, protocol_in}
use Rattle.term_values.proofs.searching.Search.+search.Given as goal

-- each way from one look at the instructions to the next passes one of them
abbrev pub decreases-some_end : goal.decreases-some_end
decreases-some_end l = 3 * length l.instructions.now

abbrev pub decreases-some_end_above : goal.decreases-some_end_above
decreases-some_end_above l = 3 * length l.later.now + 1

abbrev pub decreases-some_end_over : goal.decreases-some_end_over
decreases-some_end_over l = 3 * length l.later.now + 2

abbrev pub decreases-some_end_by : goal.decreases-some_end_by
decreases-some_end_by l = 3 * length l.later.now + 2

abbrev pub invariant-some_end_by-loop-rule : goal.invariant-some_end_by-loop-rule
invariant-some_end_by-loop-rule l = record {
  kept : l.stack ≡ l.initial.stack;
  left : list_any (λ v. some_end (passes l.self) (protocol_in l.self) l.self.context.environment.now (map instruction_of l.later) (l.initial.stack ++ v ∷ [])) (filter_map (λ rule. rule_value rule (map value_of l.arguments)) (map rule_of (drop l.rule-index l.rules)))
      ≡ list_any (λ v. some_end (passes l.self) (protocol_in l.self) l.self.context.environment.now (map instruction_of l.later) (l.initial.stack ++ v ∷ [])) (filter_map (λ rule. rule_value rule (map value_of l.arguments)) (map rule_of l.rules));
}
