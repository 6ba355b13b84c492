-- What the search for the events of an alternative speaks of.
use Rattle.std.specs.Prelude.{◌≡◌, ℕ, zero, suc, ◌<◌, ◌≤◌, Bool, true, false, cond, nat_eq, List, [], ◌∷◌, slice_get, Option, None, Some}
use Rattle.std.specs.Option.{option_map_or}
use Rattle.std.specs.List.{list_any, count_by}
use Rattle.spec_calculus.specs.Syntax.{EventTerm}
use Rattle.spec_calculus.specs.Values.{Environment}
use Rattle.spec_calculus.specs.Runs.{Performed}
use Rattle.query_violations.specs.Correspondences.{fits}
use Rattle.query_violations.specs.declared.alternatives.Found.{Found, Nothing, And'}

-- the indices of the events that are found, the latest first
abbrev pub found_of : Found → List ℕ
found_of Nothing = []
found_of (And' p before last) = last ∷ found_of before

-- whether the event at the index is found
abbrev pub is_found : List ℕ → ℕ → Bool
is_found found index = list_any (λ i. nat_eq i index) found

-- the events that aren't found, of those from an index on
abbrev pub missing_from : List ℕ → ℕ → List EventTerm → List EventTerm
missing_from found i [] = []
missing_from found i (e ∷ es) = cond (is_found found i) (missing_from found (suc i) es) (e ∷ missing_from found (suc i) es)

-- the events that aren't found
abbrev pub missing_of : List ℕ → List EventTerm → List EventTerm
missing_of found es = missing_from found zero es

-- how many performed events are an instance of the event, under an extension of what is bound
abbrev pub candidates : Environment → List Performed → EventTerm → ℕ
candidates s performed e = count_by (fits s e) performed

-- that number for the event at an index
abbrev pub weight_at : (EventTerm → ℕ) → List EventTerm → ℕ → ℕ
weight_at weight es i = option_map_or weight (slice_get es i) zero

-- the index is one of the first count, its event isn't found, and none of the first count that isn't has a lesser weight
pub record IsLeast (weight : EventTerm → ℕ) (found : List ℕ) (es : List EventTerm) (count i : ℕ) : Type 0 where
  pub within : i < count
  pub missing : is_found found i ≡ false
  pub least : (j : ℕ) → j < count → is_found found j ≡ false → weight_at weight es i ≤ weight_at weight es j

-- of the first count events, one that isn't found and has the least weight, if there is one that isn't
abbrev pub IsFewest : (EventTerm → ℕ) → List ℕ → List EventTerm → ℕ → Option ℕ → Type 0
IsFewest weight found es count None = (j : ℕ) → j < count → is_found found j ≡ true
IsFewest weight found es count (Some i) = IsLeast weight found es count i
