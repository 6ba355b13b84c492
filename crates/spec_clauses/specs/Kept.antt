-- Constraints of one clause that those of another keep: what a general clause asks of its variables has to be asked of the special one
-- that it subsumes.
use Rattle.std.specs.Prelude.{◌≡◌, ◌⊎◌, false, List}
use Rattle.std.specs.List.{AllByRecursion}
use Rattle.spec_terms.specs.Term.{Subst}
use Rattle.spec_clauses.specs.Diff.{Diff, diff_under, numbered_diff, IsMetBy}
use Rattle.spec_clauses.specs.DiffDecision.{can_be_equal}
use Rattle.spec_clauses.specs.Inclusion.{Has}

-- the substitution meets each of the constraints
abbrev pub AreMetBy : Subst → List Diff → Type 0
AreMetBy s diffs = AllByRecursion (IsMetBy s) diffs

-- under s the sides of the constraint can't be equal, or it is, numbered, one of these
abbrev pub IsKeptIn : List Diff → Subst → Diff → Type 0
IsKeptIn diffs s d = (can_be_equal (diff_under s d) ≡ false) ⊎ Has diffs (numbered_diff (diff_under s d))

abbrev pub AreKeptIn : List Diff → Subst → List Diff → Type 0
AreKeptIn diffs s general = AllByRecursion (IsKeptIn diffs s) general
