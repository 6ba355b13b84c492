-- Rows that are kept for further queries: those of what clauses give with one another that are live before any goal.
use Rattle.std.specs.Prelude.{◌≡◌, ◌⊎◌, ℕ, ◌≤◌, Some, List, [], ◌∷◌, ◌++◌, length, take, slice_get}
use Rattle.spec_terms.specs.Term.{Term}
use Rattle.spec_clauses.specs.Fact.{Clause}
use Rattle.spec_certificates.specs.Certificate.{numbered_from}
use Rattle.spec_verdicts.specs.FirstRows.{AreFirstCovers}
use Rattle.clause_form.specs.Seen.{AreClausesIn, IdClause}
use Rattle.clause_form.specs.Fit.{clauses_at}
use Rattle.cert_writer.specs.declared.known.KnownRows.{KnownRows}
use Rattle.cert_writer.specs.Adding.{AddsPairs, pairs_if_solved}

-- the row begins with a number, which is at most this one
abbrev pub BeginsWithin : ℕ → List ℕ → Type 0
BeginsWithin n [] = ⊥
BeginsWithin n (k ∷ positions) = k ≤ n

-- in each list that begins with these clauses, the rows are the first of what the clause gives with these
abbrev pub AreRowsWith : List (Clause Term) → Clause Term → List (List ℕ) → Type 0
AreRowsWith clauses c rows = (i : ℕ) (more : List (Clause Term)) (before : List (List ℕ)) → AddsPairs (clauses ++ more) (pairs_if_solved i c (numbered_from 1 clauses)) before (before ++ rows)

-- The clauses are known, and each of the first so many live ones has its rows with all of them, and each of the first so many given
-- ones its first row in each list that begins with the live ones; and what is kept over trees are the first live ones.
pub record IsKnown (all : List Term) (known : KnownRows) : Type 0 where
  pub names : AreClausesIn all known.live
  pub few : length known.rows.items ≤ length known.live
  pub rows : (k : ℕ) (c : Clause Term) (rows : List (List ℕ)) → slice_get (clauses_at all known.live) k ≡ Some c → slice_get known.rows.items k ≡ Some rows → AreRowsWith (clauses_at all known.live) c rows
  pub given : AreClausesIn all known.given
  pub fewer : length known.covers ≤ length known.given
  pub covers : (more : List (Clause Term)) → AreFirstCovers (clauses_at all known.live ++ more) (take (length known.covers) (clauses_at all known.given)) known.covers
  pub plain : known.plain ≡ take (length known.plain) (clauses_at all known.live)

-- the clauses begin with the others
abbrev pub BeginWith : List Term → List IdClause → List IdClause → Type 0
BeginWith all live front = take (length front) (clauses_at all live) ≡ clauses_at all front

-- the rows after are those before, and then the kept rows of the clause at a place, with so many clauses: all, or none where none are kept
abbrev pub PutsKnown : KnownRows → ℕ → ℕ → List (List ℕ) → List (List ℕ) → Type 0
PutsKnown known place count before after = ((count ≡ 0) × (after ≡ before)) ⊎ ((count ≡ length known.live) × ((rows : List (List ℕ)) × (slice_get known.rows.items place ≡ Some rows) × (after ≡ before ++ rows)))
