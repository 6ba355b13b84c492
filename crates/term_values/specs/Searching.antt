-- Values by instructions: each value that they end with, one after the other.
use Rattle.std.specs.Prelude.{ℕ, ◌-◌, Bool, true, List, [], ◌∷◌, ◌++◌, length, take, drop, is_some, filter_map}
use Rattle.std.specs.List.{list_any}
use Rattle.spec_trees.specs.Tree.{node}
use Rattle.spec_calculus.specs.Syntax.{Head, Builds, Calls, Protocol}
use Rattle.spec_calculus.specs.Values.{Value, Environment, value_of}
use Rattle.spec_calculus.specs.Matching.{matched, rule_value, rules_of}
use Rattle.spec_calculus.specs.Limits.{is_large}
use Rattle.spec_choice_walks.specs.Instructions.{Instruction, Push, Apply}
use Rattle.pi_tree.specs.Patterns.{pattern_of}
use Rattle.pi_tree.specs.Protocols.{protocol_of}
use Rattle.term_values.specs.declared.searching.Question.{Question}
use Rattle.term_values.specs.declared.searching.Question.TheVariants.{Matches, IsLarge, IsThere}
use Rattle.term_values.specs.declared.searching.Search.{Search}

-- what a root gives of the values of its parts, by each of its rules
abbrev pub head_values : Protocol → Head ℕ → List Value → List Value
head_values P (Builds f) vs = node f vs ∷ []
head_values P (Calls d) vs = filter_map (λ rule. rule_value rule vs) (rules_of P d)

-- whether a value passes with which the instructions end, begun with this stack, whose top is its last value
abbrev pub some_end : (Value → Bool) → Protocol → Environment → List Instruction → List Value → Bool
some_end test P environment [] stack = list_any test stack
some_end test P environment (Push term ∷ later) stack = some_end test P environment later (stack ++ value_of environment term ∷ [])
some_end test P environment (Apply head count ∷ later) stack =
    list_any (λ v. some_end test P environment later (take (length stack - count) stack ++ v ∷ [])) (head_values P head (drop (length stack - count) stack))

-- the answer to a question
abbrev pub answer : Environment → Question → Value → Bool
answer environment (Matches pattern) v = is_some (matched environment (pattern_of pattern.now) v)
answer environment IsLarge v = is_large v
answer environment IsThere v = true

abbrev pub passes : Search → Value → Bool
passes s v = answer s.context.environment.now s.question v

abbrev pub protocol_in : Search → Protocol
protocol_in s = protocol_of s.context.protocol.now
