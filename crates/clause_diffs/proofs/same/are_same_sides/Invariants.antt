use Rattle.std.proofs.Common.{◌≡◌, drop}
use Rattle.spec_clauses.specs.Diff.{same_sides}
use Rattle.clause_diffs.specs.Diffs.{sides_at}
use Rattle.clause_diffs.proofs.same.are_same_sides.Given as goal

abbrev pub invariant-each : goal.invariant-each
invariant-each g l =
    same_sides (sides_at (g.B.Bank.trees l.bank) l.first l.lefts) (sides_at (g.B.Bank.trees l.bank) l.other l.rights)
    ≡ same_sides (sides_at (g.B.Bank.trees l.bank) l.first (drop l.i l.lefts)) (sides_at (g.B.Bank.trees l.bank) l.other (drop l.i l.rights))
