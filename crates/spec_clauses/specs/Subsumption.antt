-- Subsumption of clauses, by inclusion and by rows of positions (Blanchet 2016, section 3.3.1).
use Rattle.std.specs.Prelude.{◌≡◌, ◌⊎◌, ℕ, zero, suc, ◌+◌, ◌<◌, Bool, true, not, ◌&&◌, nat_eq, cond, Option, Some, None, List, [], ◌∷◌, map, slice_get}
use Rattle.std.specs.List.{list_any}
use Rattle.spec_terms.specs.Term.{Term, Subst}
use Rattle.spec_clauses.specs.Fact.{Fact, Clause, fact_under}
pub use Rattle.spec_clauses.specs.Variables.{firm, loose}
use Rattle.spec_clauses.specs.Flat.{flat_under}
use Rattle.spec_clauses.specs.Inclusion.{IsWithin, Has}
use Rattle.spec_clauses.specs.Kept.{AreKeptIn}

-- The general clause says at least as much as the special one: under some substitution the conclusions are equal, the flat of its
-- hypotheses is included in the other's, and its constraints are kept in the other's.
pub record Subsumes (general special : Clause Term) : Type 0 where
  pub by : Subst
  pub conclusion : fact_under by general.conclusion ≡ special.conclusion
  pub within : IsWithin (flat_under by general.hypotheses) special.hypotheses
  pub diffs : AreKeptIn special.diffs by general.diffs

-- a listed clause subsumes this one
abbrev pub IsCovered : List (Clause Term) → Clause Term → Type 0
IsCovered clauses c = (general : Clause Term) × Has clauses general × Subsumes general c

-- the hypothesis at a position, which counts from 1
abbrev pub hypothesis_at : List (Fact Term) → ℕ → Option (Fact Term)
hypothesis_at hs zero = None
hypothesis_at hs (suc k) = slice_get hs k

-- no number stands twice in the row
abbrev pub are_distinct : List ℕ → Bool
are_distinct [] = true
are_distinct (p ∷ row) = not (list_any (nat_eq p) row) && are_distinct row

-- the items, of which the first stands at position k, that stand at no position of the row
abbrev pub others : {X : Type 0} → List ℕ → ℕ → List X → List X
others row k [] = []
others row k (x ∷ xs) = cond (list_any (nat_eq k) row) (others row (k + 1) xs) (x ∷ others row (k + 1) xs)

-- The row has distinct positions in the special clause, one for each firm hypothesis of the general clause, in order;
-- one substitution makes the conclusions equal, and these hypotheses what stands at the positions; the flat parts of the other
-- hypotheses stand elsewhere, none used twice; and the constraints are kept.
pub record RowHolds (general special : Clause Term) (row : List ℕ) : Type 0 where
  pub by : Subst
  pub distinct : are_distinct row ≡ true
  pub conclusion : fact_under by general.conclusion ≡ special.conclusion
  pub firmly : map (λ h. Some (fact_under by h)) (firm general.hypotheses) ≡ map (hypothesis_at special.hypotheses) row
  pub loosely : IsWithin (flat_under by (loose general.hypotheses)) (others row 1 special.hypotheses)
  pub diffs : AreKeptIn special.diffs by general.diffs

-- the first row comes before the second in dictionary order
abbrev pub ComesBefore : List ℕ → List ℕ → Type 0
ComesBefore (p ∷ ps) (q ∷ qs) = (p < q) ⊎ ((p ≡ q) × ComesBefore ps qs)
ComesBefore _ _ = ⊥

-- the row holds, and none that holds comes before it
pub record IsFirstRow (general special : Clause Term) (row : List ℕ) : Type 0 where
  pub holds : RowHolds general special row
  pub first : (other : List ℕ) → RowHolds general special other → ComesBefore other row → ⊥
