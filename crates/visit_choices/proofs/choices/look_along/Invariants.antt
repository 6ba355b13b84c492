-- the choices before the number have been looked at, in the bank as it was
use Rattle.std.proofs.Common.{◌≡◌, ◌-◌}
use Rattle.visit_choices.proofs.Passing.{AreLooked}
use Rattle.visit_choices.proofs.choices.look_along.Given as goal

abbrev pub invariant-each : goal.invariant-each
invariant-each g l = (g.B.Bank.trees l.bank ≡ g.B.Bank.trees l.fn.bank) × AreLooked (g.B.Bank.trees l.fn.bank) l.choosing l.number l.large l.going

abbrev pub decreases-each : goal.decreases-each
decreases-each g l = l.choosing.count - l.number
