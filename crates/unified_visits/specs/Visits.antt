-- What contracts see of visits.
use Rattle.std.specs.Prelude.{◌≡◌, ℕ, ◌+◌, ◌≤◌, List, length, map}
use Rattle.spec_terms.specs.Term.{Term}
use Rattle.spec_clauses.specs.Diff.{Diff, numbered_diff}
use Rattle.spec_clauses.specs.Variables.{AreBelow}
use Rattle.term_tree.specs.Bank.{tree_at, AreKnown}
use Rattle.term_tree.specs.declared.bank.Id.{Id}
use Rattle.clause_diffs.specs.Diffs.{DiffOf, diff_at, diffs_at, IsDiffIn, AreDiffsIn}
use Rattle.clause_form.specs.Seen.{fact_at, AreFactsIn}
use Rattle.spec_translation.specs.Visit as translation
use Rattle.clause_terms.specs.Scopes.{scope_at, IsScopeIn}
use Rattle.unified_visits.specs.declared.visit.Visit.{Visit}
use Rattle.unified_visits.specs.Room.{most_next}

-- the visit of the trees that the ids name, with the bound variables of each constraint numbered by first occurrence
abbrev pub visit_at : List Term → Visit → translation.Visit
visit_at all v = record {
  scope = scope_at all v.scope;
  hypotheses = map (fact_at all) v.hypotheses;
  diffs = map numbered_diff (diffs_at all v.diffs);
  messages = map (tree_at all) v.messages;
  sessions = map (tree_at all) v.sessions;
  phase = v.phase;
}

-- each id of the visit names a tree, and all variables but bound ones are below the next one, whose number is within its limit but for
-- those of copies
pub record IsVisitIn (all : List Term) (v : Visit) : Type 0 where
  pub scope : IsScopeIn all v.scope
  pub hypotheses : AreFactsIn all v.hypotheses
  pub diffs : AreDiffsIn all v.diffs
  pub messages : AreKnown all v.messages
  pub sessions : AreKnown all v.sessions
  pub below : AreBelow v.next (translation.visit_terms (visit_at all v))
  pub room : v.next ≤ most_next + length v.sessions

-- the ids of the visit name the trees of that one
pub record NamesVisit (all : List Term) (v : Visit) (tree : translation.Visit) : Type 0 where
  pub known : IsVisitIn all v
  pub is : visit_at all v ≡ tree

-- the visit x is one over the bank, and is w but for its constraints
pub record IsButForDiffs (all : List Term) (w x : Visit) : Type 0 where
  pub known : IsVisitIn all x
  pub is : x ≡ record w { diffs = x.diffs }

-- so many copies at most were taken above the visit
abbrev pub HasFewCopies : ℕ → Visit → Type 0
HasFewCopies most v = length v.sessions ≤ most

-- the ids of the constraint, of the constraints, name the trees of these, but for the numbers of bound variables
pub record ShowsDiff (all : List Term) (d : DiffOf Id) (tree : Diff) : Type 0 where
  pub known : IsDiffIn all d
  pub is : numbered_diff (diff_at all d) ≡ tree

pub record ShowDiffs (all : List Term) (ds : List (DiffOf Id)) (trees : List Diff) : Type 0 where
  pub known : AreDiffsIn all ds
  pub are : map numbered_diff (diffs_at all ds) ≡ trees
