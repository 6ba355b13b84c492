-- The constraints that a clause needs, and whether they are different ones.
use Rattle.std.specs.Prelude.{ℕ, Bool, true, not, ◌&&◌, nat_eq, List, [], ◌∷◌}
use Rattle.std.specs.List.{list_any, list_all}
use Rattle.spec_clauses.specs.Diff.{Diff, diff_variables, same_diff}
use Rattle.spec_clauses.specs.DiffDecision.{can_be_equal}

-- whether the sides can be equal, and each of the clause's variables in the constraint is one of the anchors
abbrev pub is_needed_among : List ℕ → Diff → Bool
is_needed_among anchors d = can_be_equal d && list_all (λ x. list_any (nat_eq x) anchors) (diff_variables d)

-- whether no constraint is the same as a later one
abbrev pub differ : List Diff → Bool
differ [] = true
differ (d ∷ ds) = not (list_any (same_diff d) ds) && differ ds
