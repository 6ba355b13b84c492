-- A row of parts whose rules are chosen, as terms: what they are, and which terms have to become one for the rules to apply.
use Rattle.std.specs.Prelude.{◌≡◌, ℕ, List, ◌++◌, length}
use Rattle.std.specs.List.{AllByRecursion}
use Rattle.spec_trees.specs.Tree.{trees, items_of}
use Rattle.spec_calculus.specs.Syntax.{Head, Builds, Calls, Ruled, Protocol}
use Rattle.spec_calculus.specs.Matching.{rules_of}
use Rattle.spec_terms.specs.Term.{Term}
use Rattle.spec_translation.specs.Conversion.{Scope, term_in, rule_term}
use Rattle.spec_translation.specs.Applied.{row_width, ruled_row, row_arguments, row_sides}
use Rattle.spec_choice_walks.specs.Instructions.{Instruction, Push, Apply}

-- a destructor is applied to as many parts as each of its rules has on its left side
abbrev pub IsFull : Protocol → Head ℕ → ℕ → Type 0
IsFull P (Builds f) count = Unit {0}
IsFull P (Calls d) count = AllByRecursion (λ rule. length rule.left ≡ count) (rules_of P d)

abbrev pub IsFullInstruction : Protocol → Instruction → Type 0
IsFullInstruction P (Push term) = Unit {0}
IsFullInstruction P (Apply head count) = IsFull P head count

abbrev pub AreFull : Protocol → List Instruction → Type 0
AreFull P parts = AllByRecursion (IsFullInstruction P) parts

-- the terms of a row, the arguments of all destructors in it, and the left sides that these have to be; the variables of all rules are new
-- from a base on
abbrev pub terms_of_row : Protocol → Scope → ℕ → List Ruled → List Term
terms_of_row P scope base row = items_of (ruled_row P (term_in P scope) (rule_term P) base (trees row))

abbrev pub arguments_of_row : Protocol → Scope → ℕ → List Ruled → List Term
arguments_of_row P scope base row = row_arguments P (term_in P scope) (rule_term P) base (trees row)

abbrev pub sides_of_row : Protocol → Scope → ℕ → List Ruled → List Term
sides_of_row P scope base row = row_sides P (term_in P scope) (rule_term P) base (trees row)

-- how many new variables their rules take
abbrev pub width_of_row : List Ruled → ℕ
width_of_row row = row_width (trees row)

-- the longer lists begin with the shorter ones
pub record Begins (arguments sides all_arguments all_sides : List Term) : Type 0 where
  pub more_arguments : List Term
  pub more_sides : List Term
  pub arguments_are : all_arguments ≡ arguments ++ more_arguments
  pub sides_are : all_sides ≡ sides ++ more_sides
