use Rattle.std.proofs.Common.{◌≡◌, drop}
use Rattle.spec_clauses.specs.Diff.{same_sides}
use Rattle.clause_diffs.specs.Diffs.{sides_at}
use Rattle.fact_placing.specs.Matched.{sides_matched}
use Rattle.fact_placing.proofs.alike.are_sides_under.Given as goal

abbrev pub invariant-each : goal.invariant-each
invariant-each g l =
    same_sides (sides_matched (g.B.Bank.trees l.from.bank.now) l.from.binds.now.pairs l.from.first l.lefts) (sides_at (g.B.Bank.trees l.from.bank.now) l.other l.rights)
    ≡ same_sides (sides_matched (g.B.Bank.trees l.from.bank.now) l.from.binds.now.pairs l.from.first (drop l.i l.lefts)) (sides_at (g.B.Bank.trees l.from.bank.now) l.other (drop l.i l.rights))
