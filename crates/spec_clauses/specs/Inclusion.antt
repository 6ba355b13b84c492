-- Inclusion of lists as multisets, by removal.
use Rattle.std.specs.Prelude.{List, [], ◌∷◌}

-- x stands in the list, and the rest is what is left without it
pub data Picks {X : Type 0} : List X → X → List X → Type 0 where
  here : {x : X} {xs : List X} → Picks (x ∷ xs) x xs
  there : {x y : X} {xs rest : List X} → Picks xs x rest → Picks (y ∷ xs) x (y ∷ rest)

-- x stands in the list
abbrev pub Has : {X : Type 0} → List X → X → Type 0
Has {X} xs x = (rest : List X) × Picks xs x rest

-- each item of the first list stands in the second, at places of their own
abbrev pub IsWithin : {X : Type 0} → List X → List X → Type 0
IsWithin [] ys = Unit {0}
IsWithin {X} (x ∷ xs) ys = (rest : List X) × Picks ys x rest × IsWithin xs rest
