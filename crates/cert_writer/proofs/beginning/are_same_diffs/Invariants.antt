use Rattle.std.proofs.Common.{◌≡◌, take}
use Rattle.clause_diffs.specs.Diffs.{diffs_at}
use Rattle.cert_writer.proofs.beginning.are_same_diffs.Given as goal

abbrev pub invariant-each : goal.invariant-each
invariant-each g l = take l.i (diffs_at (g.B.Bank.trees l.bank) l.lefts) ≡ take l.i (diffs_at (g.B.Bank.trees l.bank) l.rights)
