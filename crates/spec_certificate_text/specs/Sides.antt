-- Sides of constraints as the terms that their texts spell. A text spells numbers below a limit of digits; the variables from there on
-- are those that a constraint binds, and have words of their own.
use Rattle.std.specs.Prelude.{ℕ, ◌+◌, ◌-◌, ◌^◌, nat_lt, nat_le, Bool, cond, List, ◌∷◌, ◌++◌, map}
use Rattle.std.specs.Fmt.{decimal}
use Rattle.std.specs.List.{list_any}
use Rattle.spec_trees.specs.Leaves.{leaves}
use Rattle.spec_trees.specs.Tree.{Leaf, bind}
use Rattle.spec_calculus.specs.Bounds.{most_digits}
use Rattle.spec_terms.specs.Term.{Term}
use Rattle.spec_clauses.specs.Diff.{Slot, Own, Bound, Side, Diff}
use Rattle.spec_clauses.specs.Fact.{ClauseOf, Clause, map_fact}
use Rattle.spec_clauses.specs.Shown.{diff_shown}

-- the number that the bound variable 0 has
abbrev pub first_bound : ℕ
first_bound = 10 ^ most_digits

-- the variable x is `v` and the digits of x, and the bound variable i `?` and the digits of i
abbrev pub variable_word : ℕ → List ℕ
variable_word x = cond (nat_lt x first_bound) (118 ∷ decimal x) (63 ∷ decimal (x - first_bound))

-- the left sides and the right sides of a constraint: terms, or numbers of these in a table
pub record SidesOf (X : Type 0) : Type 0 where
  pub left : List X
  pub right : List X

abbrev pub sides_in_order : {X : Type 0} → SidesOf X → List X
sides_in_order s = s.left ++ s.right

-- the number that a variable has where bound ones begin at `first`, and a side in terms
abbrev pub slot_number : ℕ → Slot → ℕ
slot_number first (Own x) = x
slot_number first (Bound i) = first + i

abbrev pub side_in_terms : ℕ → Side → Term
side_in_terms first side = bind (λ x. Leaf (slot_number first x)) side

-- a side in terms, and a constraint, as they are spelled; and the constraint that is spelled so
abbrev pub side_term : Side → Term
side_term side = side_in_terms first_bound side

abbrev pub spelled_diff : Diff → SidesOf Term
spelled_diff d = record { left = map side_term d.left; right = map side_term d.right }

abbrev pub meant_diff : SidesOf Term → Diff
meant_diff s = diff_shown record { first = first_bound; left = s.left; right = s.right }

-- a clause with its constraints in terms, or in numbers; the one that is spelled for a clause, and the clause that is meant
abbrev pub SpelledClause : Type 0 → Type 0
SpelledClause X = ClauseOf X (SidesOf X)

abbrev pub spelled_clause : Clause Term → SpelledClause Term
spelled_clause c = record { hypotheses = c.hypotheses; diffs = map spelled_diff c.diffs; conclusion = c.conclusion }

abbrev pub meant_clause : SpelledClause Term → Clause Term
meant_clause c = record { hypotheses = c.hypotheses; diffs = map meant_diff c.diffs; conclusion = c.conclusion }

-- with f of each term in its place
abbrev pub map_sides : {X Y : Type 0} → (X → Y) → SidesOf X → SidesOf Y
map_sides f s = record { left = map f s.left; right = map f s.right }

abbrev pub map_spelled : {X Y : Type 0} → (X → Y) → SpelledClause X → SpelledClause Y
map_spelled f c = record { hypotheses = map (map_fact f) c.hypotheses; diffs = map (map_sides f) c.diffs; conclusion = map_fact f c.conclusion }

-- whether a bound variable stands in the term
abbrev pub holds_bound : Term → Bool
holds_bound t = list_any (nat_le first_bound) (leaves t)
