-- Pairs of entries, and what they give.
use Rattle.std.specs.Prelude.{◌≡◌, ◌⊎◌, ℕ, ◌<◌, ◌≤◌, min, max, true, false, Option, Some, None, List, length}
use Rattle.spec_terms.specs.Term.{Term}
use Rattle.spec_calculus.specs.Points.{numbered}
use Rattle.spec_clauses.specs.Fact as horn
use Rattle.spec_clauses.specs.Selection.{Selection, select, is_solved}
use Rattle.spec_clauses.specs.Resolvents.{Answer, Resolves}
use Rattle.spec_clauses.specs.Resolvents as answer
use Rattle.clause_form.specs.Seen.{clause_at, NameClauses, IdClause}
use Rattle.clause_form.specs.Fit.{AreLowWithinLimit}
use Rattle.clause_resolve.specs.declared.resolving.Resolved.{Resolved}
use Rattle.clause_resolve.specs.declared.resolving.Resolved.TheVariants.{NoUnifier, Large, Clauses}
use Rattle.log_entries.specs.declared.log.Entry.{Entry}
use Rattle.log_walks.specs.declared.stops.Pair.{Pair}
use Rattle.log_walks.specs.declared.stops.Stop.{Stop}
use Rattle.log_walks.specs.declared.stops.Stop.TheVariants as stop

-- the later and the earlier of two entries
abbrev pub major : Pair → ℕ
major pair = max pair.solved pair.unsolved

abbrev pub minor : Pair → ℕ
minor pair = min pair.solved pair.unsolved

-- the pair is that of these two entries, both are live, and the one is solved and the other isn't
pub record IsDuePair (all : List Term) (entries : List Entry) (later earlier : ℕ) (pair : Pair) : Type 0 where
  pub solved : Entry
  pub unsolved : Entry
  pub solved_at : numbered entries pair.solved ≡ Some solved
  pub unsolved_at : numbered entries pair.unsolved ≡ Some unsolved
  pub is_later : major pair ≡ later
  pub is_earlier : minor pair ≡ earlier
  pub order : earlier < later
  pub solved_live : solved.by ≡ None
  pub unsolved_live : unsolved.by ≡ None
  pub left_solved : is_solved (clause_at all solved.clause).hypotheses ≡ true
  pub right_unsolved : is_solved (clause_at all unsolved.clause).hypotheses ≡ false

-- where both are live, both are solved or none is
abbrev pub NoDuePair : List Term → List Entry → ℕ → ℕ → Type 0
NoDuePair all entries later earlier = (last first : Entry) → numbered entries later ≡ Some last → numbered entries earlier ≡ Some first → last.by ≡ None → first.by ≡ None
    → is_solved (clause_at all last.clause).hypotheses ≡ is_solved (clause_at all first.clause).hypotheses

-- the due pair gives the answer on the selected hypothesis
pub record GivesAnswer (all : List Term) (entries : List Entry) (pair : Pair) (answer : Answer) : Type 0 where
  pub due : IsDuePair all entries (major pair) (minor pair) pair
  pub at : Selection
  pub selected : select (clause_at all due.unsolved.clause).hypotheses ≡ Some at
  pub give : Resolves (clause_at all due.solved.clause) (clause_at all due.unsolved.clause) at answer

-- the two entries are a due pair without a unifier
pub record AreApart (all : List Term) (entries : List Entry) (later earlier : ℕ) : Type 0 where
  pub pair : Pair
  pub is_later : major pair ≡ later
  pub is_earlier : minor pair ≡ earlier
  pub gives : GivesAnswer all entries pair answer.NoUnifier

-- so they are, or they are no due pair; and so is each of the entries from one number on and before another, with the later one
abbrev pub ArePassedBy : List Term → List Entry → ℕ → ℕ → Type 0
ArePassedBy all entries later earlier = NoDuePair all entries later earlier ⊎ AreApart all entries later earlier

abbrev pub AllArePassedBy : List Term → List Entry → ℕ → ℕ → ℕ → Type 0
AllArePassedBy all entries later from to = (earlier : ℕ) → from ≤ earlier → earlier < to → ArePassedBy all entries later earlier

-- a due pair of the later entry with one from a number on, where those before it are passed by, if there is one
pub record IsFirstPair (all : List Term) (entries : List Entry) (later from : ℕ) (pair : Pair) : Type 0 where
  pub due : IsDuePair all entries later (minor pair) pair
  pub from_there : from ≤ minor pair
  pub none : AllArePassedBy all entries later from (minor pair)

abbrev pub IsNextPair : List Term → List Entry → ℕ → ℕ → Option Pair → Type 0
IsNextPair all entries later from None = AllArePassedBy all entries later from later
IsNextPair all entries later from (Some pair) = IsFirstPair all entries later from pair

-- the clauses name, in a bank that may have grown, the resolvents of the due pair
pub record IsMadeBy (all now : List Term) (entries : List Entry) (pair : Pair) (clauses : List IdClause) : Type 0 where
  pub resolvents : List (horn.Clause Term)
  pub name : NameClauses now clauses resolvents
  pub low : AreLowWithinLimit now clauses
  pub gives : GivesAnswer all entries pair (answer.Resolvents resolvents)

-- what was found is the pair's answer
abbrev pub IsFoundFor : List Term → List Term → List Entry → Pair → Resolved → Type 0
IsFoundFor all now entries pair NoUnifier = GivesAnswer all entries pair answer.NoUnifier
IsFoundFor all now entries pair Large = GivesAnswer all entries pair answer.Large
IsFoundFor all now entries pair (Clauses clauses) = IsMadeBy all now entries pair clauses

-- the entries are the same, or there are more
abbrev pub AreSameOrMore : List Entry → List Entry → Type 0
AreSameOrMore old new = (new ≡ old) ⊎ (length old < length new)

-- where the walk goes on from a pair without an entry more, or stops since the pair is too large, the bank is as before
abbrev pub IsTidy : List Term → List Term → List Entry → List Entry → Option Stop → Type 0
IsTidy before after old new None = length new ≡ length old → after ≡ before
IsTidy before after old new (Some (stop.Large solved unsolved)) = after ≡ before
IsTidy before after old new (Some (stop.Spent due)) = Unit {0}
