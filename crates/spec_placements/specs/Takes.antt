-- Positions that are taken, by flags, and what a row of free positions takes. These positions count from 0.
use Rattle.std.specs.Prelude.{◌≡◌, ℕ, Bool, true, false, get_or, set, slice_get, Some, List, [], ◌∷◌}
use Rattle.spec_terms.specs.Term.{Term}
use Rattle.spec_clauses.specs.Fact.{Fact}
use Rattle.spec_clauses.specs.Inclusion.{IsWithin}

-- the items whose position isn't flagged
abbrev pub left : {X : Type 0} → List Bool → List X → List X
left [] xs = xs
left (b ∷ flags) [] = []
left (true ∷ flags) (x ∷ xs) = left flags xs
left (false ∷ flags) (x ∷ xs) = x ∷ left flags xs

-- The facts stand, in order, at the row's positions, each of which was free until then, and further facts at others
-- that are free, at places of their own.
abbrev pub Takes : List (Fact Term) → List Bool → List (Fact Term) → List ℕ → List (Fact Term) → Type 0
Takes hs flags [] [] more = IsWithin more (left flags hs)
Takes hs flags (y ∷ ys) (p ∷ row) more = (get_or flags p false ≡ false) × (slice_get hs p ≡ Some y) × Takes hs (set flags p true) ys row more
Takes hs flags _ _ more = ⊥
