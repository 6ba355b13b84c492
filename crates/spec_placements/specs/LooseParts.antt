-- Removal of the flat parts of loose variables from the free positions, one after another.
use Rattle.std.specs.Prelude.{◌≡◌, ◌↔◌, ℕ, Bool, false, get_or, slice_get, Option, Some, None, List, [], ◌++◌, flat_map}
use Rattle.spec_terms.specs.Term.{Term}
use Rattle.spec_terms.specs.Binding.{Binding, bound_to}
use Rattle.spec_clauses.specs.Fact.{Fact, Att}
use Rattle.spec_clauses.specs.Flat.{flat}
use Rattle.spec_clauses.specs.Inclusion.{IsWithin}
use Rattle.spec_placements.specs.Placing.{Loose}
use Rattle.spec_placements.specs.Takes.{left}

-- the flat facts that `att` of a variable stands for in a phase, where it is bound
abbrev pub flat_of : ℕ → Option Term → List (Fact Term)
flat_of phase None = []
flat_of phase (Some t) = flat (Att phase t)

abbrev pub bound_parts : List Binding → List Loose → List (Fact Term)
bound_parts bs loose = flat_map (λ l. flat_of l.phase (bound_to bs l.variable)) loose

-- The facts were removed: with more of them there is room for them at first exactly where there is room for the others now.
abbrev pub Removes : List (Fact Term) → List Bool → List Bool → List (Fact Term) → Type 0
Removes hs before now ys = (more : List (Fact Term)) → IsWithin (ys ++ more) (left before hs) ↔ IsWithin more (left now hs)

-- the fact stands at no free position
abbrev pub Lacks : List (Fact Term) → List Bool → Fact Term → Type 0
Lacks hs flags y = (p : ℕ) → get_or flags p false ≡ false → slice_get hs p ≡ Some y → ⊥

-- the facts don't stand at free positions, at places of their own
abbrev pub HasNoRoom : List (Fact Term) → List Bool → List (Fact Term) → Type 0
HasNoRoom hs flags ys = IsWithin ys (left flags hs) → ⊥
