use Rattle.std.proofs.Common.{◌≡◌, take}
use Rattle.cert_writer.proofs.SameLists.{trees_of}
use Rattle.cert_writer.proofs.beginning.are_same_facts.Given as goal

abbrev pub invariant-each : goal.invariant-each
invariant-each g l = take l.i (trees_of (g.B.Bank.trees l.bank) l.lefts) ≡ take l.i (trees_of (g.B.Bank.trees l.bank) l.rights)
