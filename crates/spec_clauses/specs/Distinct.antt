-- Distinct items of a list, and their places.
use Rattle.std.specs.Prelude.{ℕ, suc, Bool, not, cond, nat_eq, List, [], ◌∷◌, filter}

-- of the items that are the same, the first
abbrev pub distinct : {X : Type 0} → (X → X → Bool) → List X → List X
distinct same [] = []
distinct same (x ∷ xs) = x ∷ filter (λ y. not (same x y)) (distinct same xs)

-- the place of x in the list, from 0; the list's length where it isn't there
abbrev pub place_of : ℕ → List ℕ → ℕ
place_of x [] = 0
place_of x (y ∷ ys) = cond (nat_eq x y) 0 (suc (place_of x ys))
