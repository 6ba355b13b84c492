-- Goal rows of the entries of a log.
use Rattle.std.specs.Prelude.{◌≡◌, ◌⊎◌, ℕ, ◌<◌, Bool, true, false, ◌&&◌, Some, List, [], ◌∷◌, ◌++◌}
use Rattle.spec_calculus.specs.Syntax.{Query, Protocol}
use Rattle.spec_calculus.specs.Points.{numbered}
use Rattle.spec_terms.specs.Term.{Term}
use Rattle.spec_clauses.specs.Selection.{is_solved}
use Rattle.spec_translation.specs.Satisfied.{is_bad, IsSatisfied}
use Rattle.spec_verdicts.specs.FirstRows.{IsFirstGoal, AreFirstGoals, bad_clauses}
use Rattle.clause_form.specs.Seen.{clause_at}
use Rattle.log_entries.specs.declared.log.Entry.{Entry}
use Rattle.log_entries.specs.Logs.{is_unbeaten, live_clauses}
use Rattle.cert_writer.specs.declared.satisfying.Goals.{Goals}
use Rattle.cert_writer.specs.declared.satisfying.Goals.TheVariants.{Rows, Unsatisfied}

-- whether the entry is live and solved, and concludes `bad`
abbrev pub is_due_at : List Term → Entry → Bool
is_due_at all entry = is_unbeaten entry.by && (is_solved (clause_at all entry.clause).hypotheses && is_bad (clause_at all entry.clause).conclusion)

-- the entry's first goal row is added, if it has to have one
pub record AddsFirstGoal (P : Protocol) (q : Query) (all : List Term) (entry : Entry) (before after : List (List ℕ)) : Type 0 where
  pub due : is_due_at all entry ≡ true
  pub row : List ℕ
  pub first : IsFirstGoal P q (clause_at all entry.clause) row
  pub are : after ≡ before ++ row ∷ []

abbrev pub AddsGoal : Protocol → Query → List Term → Entry → List (List ℕ) → List (List ℕ) → Type 0
AddsGoal P q all entry before after = ((is_due_at all entry ≡ false) × (after ≡ before)) ⊎ AddsFirstGoal P q all entry before after

-- the entry has to have one, and doesn't satisfy the query
pub record IsUnmetEntry (P : Protocol) (q : Query) (all : List Term) (entry : Entry) : Type 0 where
  pub due : is_due_at all entry ≡ true
  pub unsatisfied : IsSatisfied P q (clause_at all entry.clause) → ⊥

-- the entry of that number is the first such one
pub record IsFirstUnmetEntry (P : Protocol) (q : Query) (all : List Term) (entries : List Entry) (number : ℕ) : Type 0 where
  pub entry : Entry
  pub at : numbered entries number ≡ Some entry
  pub unmet : IsUnmetEntry P q all entry
  pub first : (n : ℕ) (e : Entry) → n < number → numbered entries n ≡ Some e → IsUnmetEntry P q all e → ⊥

-- the goal rows of the log's entries, or the first one that is unmet
abbrev pub AreGoalsOf : Protocol → Query → List Term → List Entry → Goals → Type 0
AreGoalsOf P q all entries (Rows rows) = AreFirstGoals P q (bad_clauses (live_clauses all entries)) rows
AreGoalsOf P q all entries (Unsatisfied number) = IsFirstUnmetEntry P q all entries number
