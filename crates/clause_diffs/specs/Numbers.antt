-- Variables renumbered by their places in a list.
use Rattle.std.specs.Prelude.{ℕ, ◌+◌, ◌-◌, nat_lt, cond, List}
use Rattle.spec_trees.specs.Tree.{Leaf}
use Rattle.spec_terms.specs.Term.{Subst}
use Rattle.spec_clauses.specs.Norm.{place_of}

-- each variable gives way to the one whose number is its place
abbrev pub placed : List ℕ → Subst
placed order x = Leaf (place_of x order)

-- In a constraint, a variable of the clause gives way to the one whose number is its place, and a bound one, from `first` on, to the
-- one whose number is its place in another list, from `next` on.
abbrev pub numbered_by : List ℕ → List ℕ → ℕ → ℕ → Subst
numbered_by own bound first next x = cond (nat_lt x first) (Leaf (place_of x own)) (Leaf (place_of (x - first) bound + next))
