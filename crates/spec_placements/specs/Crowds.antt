-- More facts than positions that they fit.
use Rattle.std.specs.Prelude.{◌≡◌, ℕ, ◌+◌, Bool, false, cond, get_or, slice_get, Some, List, [], ◌∷◌, length}
use Rattle.std.specs.List.{AllByRecursion}
use Rattle.spec_terms.specs.Term.{Term}
use Rattle.spec_terms.specs.Binding.{Binding}
use Rattle.spec_clauses.specs.Fact.{Fact}
use Rattle.spec_clauses.specs.Inclusion.{IsWithin}
use Rattle.spec_placements.specs.Placing.{NoFactMatch}

-- how many positions an area has
abbrev pub room : List Bool → ℕ
room [] = 0
room (b ∷ area) = cond b 1 0 + room area

-- the fact fits no free position outside of the area
abbrev pub IsConfined : List Binding → List Bool → List (Fact Term) → List Bool → Fact Term → Type 0
IsConfined bs taken hs area fact = (p : ℕ) → get_or taken p false ≡ false → get_or area p false ≡ false → (h : Fact Term) → slice_get hs p ≡ Some h → NoFactMatch bs fact h

-- at least so many of the facts fit no free position outside of the area
pub record AreConfined (bs : List Binding) (taken : List Bool) (hs : List (Fact Term)) (area : List Bool) (facts : List (Fact Term)) (n : ℕ) : Type 0 where
  pub these : List (Fact Term)
  pub among : IsWithin these facts
  pub confined : AllByRecursion (IsConfined bs taken hs area) these
  pub number : length these ≡ n
