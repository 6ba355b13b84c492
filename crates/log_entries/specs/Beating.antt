-- Entries and a clause that is offered: which live ones subsume it, and which it subsumes.
use Rattle.std.specs.Prelude.{◌≡◌, ◌⊎◌, ℕ, ◌+◌, ◌<◌, Option, Some, None, List, [], ◌∷◌, ◌++◌, length, map}
use Rattle.spec_terms.specs.Term.{Term}
use Rattle.spec_clauses.specs.Fact.{Clause}
use Rattle.spec_clauses.specs.Subsumption.{Subsumes}
use Rattle.spec_saturation.specs.Key.{Key}
use Rattle.spec_saturation.specs.Key as offered
use Rattle.spec_saturation.specs.Log.{IsCoveredBy}
use Rattle.clause_form.specs.Seen.{clause_at, IdClause}
use Rattle.log_entries.specs.declared.log.Entry.{Entry}
use Rattle.log_entries.specs.Logs.{TellLog, TellsEntry}

-- the clauses of entries
abbrev pub clauses_of : List Entry → List IdClause
clauses_of entries = map (λ e. e.clause) entries

-- the entry is live and subsumes the clause; some entry does
abbrev pub LiveCovers : List Term → Entry → Clause Term → Type 0
LiveCovers all entry c = (entry.by ≡ None) × Subsumes (clause_at all entry.clause) c

abbrev pub SomeLiveCovers : List Term → List Entry → Clause Term → Type 0
SomeLiveCovers all [] c = ⊥
SomeLiveCovers all (entry ∷ entries) c = LiveCovers all entry c ⊎ SomeLiveCovers all entries c

-- the entry is live and the clause subsumes it
abbrev pub BeatsLive : List Term → Clause Term → Entry → Type 0
BeatsLive all c entry = (entry.by ≡ None) × Subsumes c (clause_at all entry.clause)

-- the entry with the mark that the clause, which gets that number, beats it if it does
pub record IsMarked (all : List Term) (c : Clause Term) (number : ℕ) (old new : Entry) : Type 0 where
  pub clause : new.clause ≡ old.clause
  pub origin : new.origin ≡ old.origin
  pub by : (BeatsLive all c old × (new.by ≡ Some number)) ⊎ ((BeatsLive all c old → ⊥) × (new.by ≡ old.by))

abbrev pub AreMarked : List Term → Clause Term → ℕ → List Entry → List Entry → Type 0
AreMarked all c number [] [] = Unit {0}
AreMarked all c number [] (e ∷ es) = ⊥
AreMarked all c number (d ∷ ds) [] = ⊥
AreMarked all c number (d ∷ ds) (e ∷ es) = IsMarked all c number d e × AreMarked all c number ds es

-- the entries with their marks, and the new one at the end
pub record IsPushed (all : List Term) (old : List Entry) (entry : Entry) (new : List Entry) : Type 0 where
  pub marked : List Entry
  pub are_marked : AreMarked all (clause_at all entry.clause) (length old + 1) old marked
  pub is : new ≡ marked ++ entry ∷ []

-- An offer at the key, over the log that the entries told, within the budget: it is covered, and nothing happens; it is
-- new, and told at the end; or it is new, and due.
pub record IsAdded (all : List Term) (log : List offered.Entry) (new : List Entry) (budget : ℕ) (e : offered.Entry) : Type 0 where
  pub uncovered : IsCoveredBy log e.clause → ⊥
  pub room : length log < budget
  pub tell : TellLog all new (log ++ e ∷ [])

pub record IsDueEntry (all : List Term) (log : List offered.Entry) (old new : List Entry) (budget : ℕ) (e : offered.Entry) (entry : Entry) : Type 0 where
  pub uncovered : IsCoveredBy log e.clause → ⊥
  pub full : length log ≡ budget
  pub same : new ≡ old
  pub tells : TellsEntry all log entry e
  pub unbeaten : entry.by ≡ None

abbrev pub IsOfferMade : List Term → List offered.Entry → List Entry → List Entry → ℕ → offered.Entry → Option Entry → Type 0
IsOfferMade all log old new budget e None = (IsCoveredBy log e.clause × (new ≡ old)) ⊎ IsAdded all log new budget e
IsOfferMade all log old new budget e (Some entry) = IsDueEntry all log old new budget e entry
