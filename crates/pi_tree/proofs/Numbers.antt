-- Declared names by their number.
use Rattle.std.proofs.Common.{◌≡◌, ℕ, ◌+◌, ◌<◌, List, Some, map, length, get_or, not, slice_get, option_map, refl, ap, ◌∙◌}
use Rattle.std.proofs.lemmas.Option.{slice_get-map, slice_get_read}
use Rattle.spec_calculus.specs.Absence.{is_private}
use Rattle.spec_calculus.proofs.Points.{is_private-add-one}
use Rattle.pi_tree.specs.declared.names.Declared.{Declared}
use Rattle.pi_tree.specs.Names.{declared_of}

-- the free name at an index is private where it is declared so
pub is_private-map : (items : List Declared) (index number : ℕ) (declared : Declared) → number ≡ index + 1 → index < length items → declared ≡ get_or items index declared → is_private (map declared_of items) number ≡ not declared.public
is_private-map items index number declared next within at =
    let read : slice_get items index ≡ Some declared = slice_get_read items (length items) index declared refl within at in
    let mapped : slice_get (map declared_of items) index ≡ Some (declared_of declared) = slice_get-map declared_of items index ∙ ap (option_map declared_of) read in
    rw next (is_private-add-one (map declared_of items) index (declared_of declared) mapped)

-- what a search of a name by its number uses
pub ruleset by_number = (is_private-map)
