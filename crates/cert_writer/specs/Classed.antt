-- The places of the live clauses, listed by the classes of their conclusions, and the first of some of them that covers a clause.
use Rattle.std.specs.Prelude.{◌≡◌, ℕ, ◌<◌, Option, Some, None, List, slice_get, length}
use Rattle.spec_terms.specs.Term.{Term}
use Rattle.spec_clauses.specs.Fact.{Clause}
use Rattle.spec_clauses.specs.Subsumption.{RowHolds, IsFirstRow}
use Rattle.spec_fingerprints.specs.Fingerprints as print
use Rattle.clause_form.specs.Seen.{clause_at, IdClause}
use Rattle.fact_classes.specs.declared.classes.Classes.{Classes}
use Rattle.fact_classes.specs.Classes.{class_of, listed}
use Rattle.log_entries.specs.Numbers.{IsAmong, IsAscending}
use Rattle.cert_writer.specs.declared.covering.Found.{Found}

-- they are places, ascending, among them those of the fingerprints of the class
pub record AreOfClass (prints : List print.Fingerprint) (class : Option ℕ) (places : List ℕ) : Type 0 where
  pub ascend : IsAscending 0 places
  pub within : (place : ℕ) → IsAmong places place → place < length prints
  pub every : (place : ℕ) (p : print.Fingerprint) → slice_get prints place ≡ Some p → class_of p ≡ class → IsAmong places place

abbrev pub AreClassed : List print.Fingerprint → Classes → Type 0
AreClassed prints classes = (class : Option ℕ) → AreOfClass prints class (listed classes class)

-- no row holds of the clause at a place, or this is the first that does
abbrev pub NoRowAt : List Term → List IdClause → Clause Term → ℕ → Type 0
NoRowAt all live c place = (general : IdClause) → slice_get live place ≡ Some general → (row : List ℕ) → RowHolds (clause_at all general) c row → ⊥

abbrev pub IsFirstRowAt : List Term → List IdClause → Clause Term → ℕ → List ℕ → Type 0
IsFirstRowAt all live c place row = (general : IdClause) → slice_get live place ≡ Some general → IsFirstRow (clause_at all general) c row

-- the first of the places at which a row holds, with its first row, if there is one
abbrev pub IsFirstAmong : List Term → List IdClause → Clause Term → List ℕ → Option Found → Type 0
IsFirstAmong all live c places None = (place : ℕ) → IsAmong places place → NoRowAt all live c place
IsFirstAmong all live c places (Some found) = IsAmong places found.place × IsFirstRowAt all live c found.place found.row
    × ((place : ℕ) → IsAmong places place → place < found.place → NoRowAt all live c place)
