-- Declared constructors by their number.
use Rattle.std.proofs.Common.{◌≡◌, ℕ, zero, suc, ◌+◌, ◌<◌, ◌≤◌, false, List, [], ◌∷◌, Some, None, map, length, get_or, slice_get, option_map, refl, ap, ◌∙◌, sym, arith}
use Rattle.std.specs.Option.{option_map_or}
use Rattle.std.proofs.lemmas.Option.{slice_get-map, slice_get_read}
use Rattle.spec_calculus.specs.Points.{numbered}
use Rattle.pi_tree.specs.declared.names.Declared.{Declared}
use Rattle.pi_tree.specs.Names.{declared_of}

numbered-next : {A : Type 0} (items : List A) (index number : ℕ) → number ≡ index + 1 → numbered items number ≡ slice_get items index
numbered-next items index number next = let same : number ≡ suc index = omega (arith, next) in ap (numbered items) same

-- the constructor at an index is data where it is declared so
pub data_at : (items : List Declared) (index number : ℕ) (declared : Declared) → number ≡ index + 1 → index < length items → declared ≡ get_or items index declared
    → declared.is_data ≡ option_map_or (λ d. d.is_data) (numbered (map declared_of items) number) false
data_at items index number declared next within at =
    let read : slice_get items index ≡ Some declared = slice_get_read items (length items) index declared refl within at in
    let mapped : slice_get (map declared_of items) index ≡ Some (declared_of declared) = slice_get-map declared_of items index ∙ ap (option_map declared_of) read in
    sym (ap (λ o. option_map_or (λ d. d.is_data) o false) (numbered-next (map declared_of items) index number next ∙ mapped))

slice_get-past : {A : Type 0} (items : List A) (index : ℕ) → length items ≤ index → slice_get items index ≡ None
slice_get-past [] index past = refl
slice_get-past (x ∷ xs) zero past = absurd (omega arith)
slice_get-past (x ∷ xs) (suc index) past = slice_get-past xs index (omega arith)

-- one that is not there is none
pub data_past : (items : List Declared) (index number : ℕ) → number ≡ index + 1 → length items ≤ index
    → false ≡ option_map_or (λ d. d.is_data) (numbered (map declared_of items) number) false
data_past items index number next past =
    let none : slice_get (map declared_of items) index ≡ None = slice_get-map declared_of items index ∙ ap (option_map declared_of) (slice_get-past items index past) in
    sym (ap (λ o. option_map_or (λ d. d.is_data) o false) (numbered-next (map declared_of items) index number next ∙ none))

-- what a search of a constructor by its number uses
pub ruleset by_number = (data_at, data_past)
