-- The value by the rules whose numbers are taken from the front, whether a part of it is large, and the numbers that are left.
use Rattle.std.specs.Prelude.{ℕ, zero, suc, Bool, false, ◌||◌, List, [], ◌∷◌, Option, None, Some, option_and_then, option_map}
use Rattle.spec_trees.specs.Tree.{Trees, Leaf, Node, none, more, node}
use Rattle.spec_calculus.specs.Syntax.{Term, Head, Builds, Calls, Expression, Rule, Protocol}
use Rattle.spec_calculus.specs.Points.{numbered}
use Rattle.spec_calculus.specs.Values.{Value, Environment, value_of}
use Rattle.spec_calculus.specs.Matching.{rule_value, rules_of}
use Rattle.spec_calculus.specs.Limits.{is_large}
use Rattle.pi_tree.specs.Values as seen
use Rattle.term_values.specs.declared.labels.Labelled as code
use Rattle.term_values.specs.declared.labels.LabelledRow as code_row

-- what was read so far: `A` is a value or a list of values
pub record Labelled (A : Type 0) : Type 0 where
  pub value : A
  pub large : Bool
  pub numbers : List ℕ

-- what a root makes of the values of its parts
abbrev pub made : Labelled (List Value) → List ℕ → Value → Labelled Value
made row numbers v = record { value = v; large = row.large || is_large v; numbers = numbers }

-- by the rule of the next number
abbrev pub called : List Rule → Labelled (List Value) → List ℕ → Option (Labelled Value)
called rules row [] = None
called rules row (number ∷ numbers) = option_map (made row numbers) (option_and_then (λ rule. rule_value rule row.value) (numbered rules number))

-- a part before the others
abbrev pub joined : Labelled Value → Labelled (List Value) → Labelled (List Value)
joined first others = record { value = first.value ∷ others.value; large = first.large || others.large; numbers = others.numbers }

abbrev mutual
  pub labelled : Protocol → Environment → Expression → List ℕ → Option (Labelled Value)
  labelled P environment (Leaf term) numbers =
      Some (record { value = value_of environment term; large = is_large (value_of environment term); numbers = numbers })
  labelled P environment (Node (Builds f) parts) numbers = option_map (λ row. made row row.numbers (node f row.value)) (labelled_row P environment parts numbers)
  labelled P environment (Node (Calls d) parts) numbers = option_and_then (λ row. called (rules_of P d) row row.numbers) (labelled_row P environment parts numbers)

  pub labelled_row : Protocol → Environment → Trees Term (Head ℕ) → List ℕ → Option (Labelled (List Value))
  labelled_row P environment none numbers = Some (record { value = []; large = false; numbers = numbers })
  labelled_row P environment (more part parts) numbers =
      option_and_then (λ first. option_map (joined first) (labelled_row P environment parts first.numbers)) (labelled P environment part numbers)

-- the numbers of the rules that a label tells; none where it has none
abbrev pub numbers_of : List ℕ → Option (List ℕ)
numbers_of [] = None
numbers_of (zero ∷ []) = Some []
numbers_of (zero ∷ n ∷ ns) = Some (zero ∷ n ∷ ns)
numbers_of (suc n ∷ ns) = Some (suc n ∷ ns)

-- what contracts see of these
abbrev pub labelled_of : code.Labelled → Labelled Value
labelled_of l = record { value = seen.value_of l.value; large = l.large; numbers = l.numbers.now }

abbrev pub labelled_row_of : code_row.LabelledRow → Labelled (List Value)
labelled_row_of l = record { value = l.values; large = l.large; numbers = l.numbers.now }
