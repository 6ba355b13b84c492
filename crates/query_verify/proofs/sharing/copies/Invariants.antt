use Rattle.std.proofs.Common.{◌≡◌, take}
use Rattle.query_verify.proofs.sharing.copies.Given as goal

abbrev pub invariant-each : goal.invariant-each
invariant-each l = l.items.items ≡ take l.clause-index l.clauses
