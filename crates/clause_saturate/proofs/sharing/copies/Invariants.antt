use Rattle.std.proofs.Common.{◌≡◌, take}
use Rattle.clause_saturate.proofs.sharing.copies.Given as goal

abbrev pub invariant-each : goal.invariant-each
invariant-each l = l.items.items ≡ take l.entry-index l.entries
