-- The else branch of a `let`: it runs where no choice of rules gives a value that matches the pattern. What that excludes is a constraint
-- for each choice, which binds the variables of the rules and of the pattern (Blanchet, Abadi and Fournet 2008, section 5: the predicate
-- `nounif` for the failure of a destructor).
use Rattle.std.specs.Prelude.{ℕ, ◌+◌, ◌-◌, List, [], ◌∷◌, ◌++◌, map, filter}
use Rattle.spec_trees.specs.Tree.{Leaf}
use Rattle.spec_calculus.specs.Syntax.{Name, Made, Variable, Hole, Bind, Equal, Pattern, Expression, Ruled, Protocol}
use Rattle.spec_calculus.specs.Syntax as calculus
use Rattle.spec_calculus.specs.Choices.{choices}
use Rattle.spec_clauses.specs.Diff.{Bound, Side, Diff, own, numbered_diff}
use Rattle.spec_translation.specs.Conversion.{Scope, free_term, converted, term_in}
use Rattle.spec_translation.specs.Applied.{width, fits, ruled_term, ruled_arguments, ruled_sides}
use Rattle.spec_translation.specs.Visit.{Visit}

-- a term of the process in a constraint
abbrev pub own_side : Protocol → Scope → calculus.Term → Side
own_side P scope term = own (term_in P scope term)

-- a rule's term: its variables, numbered from 1, are bound ones from the base on
abbrev pub rule_slot : ℕ → Name → Side
rule_slot base (calculus.Free n) = own (free_term n)
rule_slot base (Made p) = own (free_term 0)
rule_slot base (Variable i) = Leaf (Bound (base + (i - 1)))

abbrev pub rule_side : Protocol → ℕ → calculus.Term → Side
rule_side P base term = converted P (rule_slot base) term

-- a pattern: its variables are bound ones behind those of the rules
abbrev pub hole_side : Protocol → Scope → ℕ → Hole → Side
hole_side P scope base (Bind i) = Leaf (Bound (base + i))
hole_side P scope base (Equal term) = own_side P scope term

abbrev pub pattern_side : Protocol → Scope → ℕ → Pattern → Side
pattern_side P scope base pattern = converted P (hole_side P scope base) pattern

-- The constraint of a choice: its arguments are not the left sides, or its value is not the pattern.
abbrev pub choice_sides : Protocol → Scope → Pattern → Ruled → Diff
choice_sides P scope pattern ruled = record {
  left = ruled_arguments P (own_side P scope) (rule_side P) 0 ruled ++ ruled_term P (own_side P scope) (rule_side P) 0 ruled ∷ [];
  right = ruled_sides P (own_side P scope) (rule_side P) 0 ruled ++ pattern_side P scope (width ruled) pattern ∷ [];
}

abbrev pub choice_diff : Protocol → Scope → Pattern → Ruled → Diff
choice_diff P scope pattern ruled = numbered_diff (choice_sides P scope pattern ruled)

-- those of all choices, in order; one with a rule that takes another number of arguments gives no value, and adds nothing
abbrev pub choice_diffs : Protocol → Scope → Pattern → Expression → List Diff
choice_diffs P scope pattern expression = map (choice_diff P scope pattern) (filter fits (map (λ c. c.ruled) (choices P expression)))

-- the visit of an else branch has them besides
abbrev pub otherwise_visit : Protocol → Visit → Pattern → Expression → Visit
otherwise_visit P v pattern expression = record v { diffs = v.diffs ++ choice_diffs P v.scope pattern expression }
