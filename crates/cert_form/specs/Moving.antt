-- The bound variables of a constraint with other numbers.
use Rattle.std.specs.Prelude.{ℕ}
use Rattle.spec_trees.specs.Tree.{Leaf}
use Rattle.spec_terms.specs.Term.{Subst}
use Rattle.spec_clauses.specs.Shown.{slot_shown}
use Rattle.spec_certificate_text.specs.Sides.{slot_number}

-- variables from `first` on stand from `next` on, and those below stay
abbrev pub moved : ℕ → ℕ → Subst
moved first next x = Leaf (slot_number next (slot_shown first x))
