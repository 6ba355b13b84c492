-- Expressions in postfix order: what is done one after the other to evaluate them, over a row of parts of which the last ones are taken
-- together. A choice of rules is completed from the first instruction to the last.
use Rattle.std.specs.Prelude.{◌≡◌, ℕ, ◌+◌, ◌*◌, ◌-◌, ◌≤◌, List, [], ◌∷◌, ◌++◌, length, take, drop}
use Rattle.std.specs.List.{flat_map}
use Rattle.spec_trees.specs.Tree.{Trees, Leaf, Node, none, more, items_of, node}
use Rattle.spec_calculus.specs.Syntax.{Term, Head, Builds, Calls, Expression, Rule, Ruled, Protocol}
use Rattle.spec_calculus.specs.Matching.{rules_of}

pub data Instruction : Type 0 where
  -- the term comes behind the row
  Push : (term : Term) → Instruction
  -- the root takes the place of that many parts, the last ones
  Apply : (head : Head ℕ) → (count : ℕ) → Instruction

-- each part before the root that is applied to it
abbrev mutual
  pub instructions : Expression → List Instruction
  instructions (Leaf term) = Push term ∷ []
  instructions (Node head parts) = row_instructions parts ++ Apply head (length (items_of parts)) ∷ []

  pub row_instructions : Trees Term (Head ℕ) → List Instruction
  row_instructions none = []
  row_instructions (more part parts) = instructions part ++ row_instructions parts

-- the root over so many of the last of a row
abbrev pub joined_last : Head Rule → ℕ → List Ruled → List Ruled
joined_last head count row = take (length row - count) row ++ node head (drop (length row - count) row) ∷ []

-- what a row becomes by the instructions that are left, for each choice of rules in dictionary order
abbrev pub completions : Protocol → List Instruction → List Ruled → List Ruled
completions P [] row = row
completions P (Push term ∷ parts) row = completions P parts (row ++ Leaf term ∷ [])
completions P (Apply (Builds f) count ∷ parts) row = completions P parts (joined_last (Builds f) count row)
completions P (Apply (Calls d) count ∷ parts) row = flat_map (λ rule. completions P parts (joined_last (Calls rule) count row)) (rules_of P d)

-- how many choices of rules there are for them
abbrev pub choices_by : Protocol → List Instruction → ℕ
choices_by P [] = 1
choices_by P (Push term ∷ parts) = choices_by P parts
choices_by P (Apply (Builds f) count ∷ parts) = choices_by P parts
choices_by P (Apply (Calls d) count ∷ parts) = length (rules_of P d) * choices_by P parts

-- by them a row of that length becomes one part
abbrev pub BecomesOne : ℕ → List Instruction → Type 0
BecomesOne height [] = height ≡ 1
BecomesOne height (Push term ∷ parts) = BecomesOne (height + 1) parts
BecomesOne height (Apply head count ∷ parts) = (count ≤ height) × BecomesOne ((height - count) + 1) parts

-- how many destructors they apply
abbrev pub applied_by : List Instruction → ℕ
applied_by [] = 0
applied_by (Push term ∷ parts) = applied_by parts
applied_by (Apply (Builds f) count ∷ parts) = applied_by parts
applied_by (Apply (Calls d) count ∷ parts) = applied_by parts + 1
