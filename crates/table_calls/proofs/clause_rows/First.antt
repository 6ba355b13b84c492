-- The first of the items, where there is one.
use Rattle.std.proofs.Common.{◌≡◌, ◌≤◌, List, [], ◌∷◌, length, Some, refl, arith}
use Rattle.spec_calculus.specs.Points.{numbered}

pub first_there : {A : Type 0} (items : List A) → 1 ≤ length items → (item : A) × (numbered items 1 ≡ Some item)
first_there [] there = absurd (omega (arith, there))
first_there (item ∷ items) there = (item, refl)
