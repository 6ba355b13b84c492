-- Marks for the keys of facts: each key has two places among 2 ^ 15.
use Rattle.std.specs.Prelude.{◌≡◌, ℕ, ◌/◌, ◌%◌, ◌^◌, Bool, true, false, ◌&&◌, List, slice_index_or, slice_set}
use Rattle.spec_terms.specs.Term.{Term}
use Rattle.spec_clauses.specs.Fact.{Fact, is_among}
use Rattle.clause_form.specs.Keys.{mixed, fact_key}

-- the places of a key: fifteen bits of its product with a number, and the fifteen below
abbrev pub first_place : ℕ → ℕ
first_place key = mixed key 0 / 2 ^ 49

abbrev pub second_place : ℕ → ℕ
second_place key = (mixed key 0 / 2 ^ 34) % 2 ^ 15

-- whether both are marked, and the marks with both marked
abbrev pub is_marked : List Bool → ℕ → Bool
is_marked marks key = slice_index_or marks (first_place key) false && slice_index_or marks (second_place key) false

abbrev pub marked : List Bool → ℕ → List Bool
marked marks key = slice_set (slice_set marks (first_place key) true) (second_place key) true

-- a fact whose key isn't marked isn't among these
abbrev pub HaveMarks : List (Fact Term) → List Bool → Type 0
HaveMarks facts marks = (f : Fact Term) → is_marked marks (fact_key f) ≡ false → is_among facts f ≡ false
