-- The choice that a label tells, read from it without the list of all choices.
use Rattle.std.specs.Prelude.{ℕ, List, [], ◌∷◌, Option, None, Some, option_and_then, option_map}
use Rattle.spec_trees.specs.Tree.{Trees, Leaf, Node, none, more}
use Rattle.spec_calculus.specs.Syntax.{Term, Head, Builds, Calls, Expression, Rule, Ruled, Protocol}
use Rattle.spec_calculus.specs.Points.{numbered}
use Rattle.spec_calculus.specs.Matching.{rules_of}

-- what was read of a label, and the numbers that are left
abbrev pub Reading : Type 0 → Type 0
Reading A = Option (A × List ℕ)

-- the rule of a destructor, by the next number, on what was read of its arguments
abbrev pub called_reading : List Rule → Trees Term (Head Rule) × List ℕ → Reading Ruled
called_reading rules (parts, []) = None
called_reading rules (parts, number ∷ numbers) = option_map (λ rule. (Node (Calls rule) parts, numbers)) (numbered rules number)

-- the expression with the rules whose numbers are taken from the front, those of arguments before that of the destructor on them
abbrev mutual
  pub read_rules : Protocol → Expression → List ℕ → Reading Ruled
  read_rules P (Leaf term) numbers = Some (Leaf term, numbers)
  read_rules P (Node (Builds f) parts) numbers = option_map (λ read. (Node (Builds f) read.0, read.1)) (read_row P parts numbers)
  read_rules P (Node (Calls d) parts) numbers = option_and_then (called_reading (rules_of P d)) (read_row P parts numbers)

  pub read_row : Protocol → Trees Term (Head ℕ) → List ℕ → Reading (Trees Term (Head Rule))
  read_row P none numbers = Some (none, numbers)
  read_row P (more part parts) numbers =
      option_and_then (λ first. option_map (λ others. (more first.0 others.0, others.1)) (read_row P parts first.1)) (read_rules P part numbers)
