-- The shared bank: no two of its trees are equal.
use Rattle.std.specs.Prelude.{◌≡◌, ℕ, ◌≤◌, List, [], ◌∷◌, ◌++◌, map}
use Rattle.std.specs.List.{IsDistinct, AllByRecursion}
use Rattle.spec_terms.specs.Term.{Term}
use Rattle.term_tree.specs.Bank.{Names}
use Rattle.term_tree.specs.Roots.{built, HaveArgs, told}
use Rattle.term_tree.specs.declared.bank.Id.{Id}
use Rattle.term_store.specs.declared.measure.Measure.{Measure}
use Rattle.term_store.specs.declared.shape.Shape.{Shape}
use Rattle.term_store.specs.Measures.{tells_of}
use Rattle.term_store.specs.Shapes.{root_of, IsPlain, same_shape}

-- the trees of shapes
abbrev pub trees_of : List Shape → List Term
trees_of shapes = built [] (map root_of shapes)

-- each shape's arguments stand before it, variables have none, no two shapes are equal, and what is told of each tree is so
pub record IsWell (shapes : List Shape) (measures : List Measure) : Type 0 where
  pub args : HaveArgs [] (map root_of shapes)
  pub plain : AllByRecursion IsPlain shapes
  pub distinct : IsDistinct same_shape shapes
  pub tells : map tells_of measures ≡ map told (trees_of shapes)

-- a shape of four arguments (`FOUND_ARGS`) can be written there without memory
abbrev pub HasRoom : Shape → Type 0
HasRoom s = 4 ≤ s.args.capacity

-- the id of a place
abbrev pub id_at : ℕ → Id
id_at k = record { index = k }

-- the id is that which the tree has already, and the bank stays as it is
abbrev pub Finds : List Term → List Term → Term → Id → Type 0
Finds old new t id = (known : Id) → Names old known t → (id ≡ known) × (new ≡ old)

-- the tree is there
abbrev pub IsKnown : List Term → Term → Type 0
IsKnown all t = (id : Id) × Names all id t

-- a tree that is not there is added, and no other
abbrev pub AddsNew : List Term → List Term → Term → Type 0
AddsNew old new t = ¬ IsKnown old t → new ≡ old ++ t ∷ []
