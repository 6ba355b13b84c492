use Rattle.std.proofs.Common.{◌<◌, length}
use Rattle.table_calls.proofs.clause_rows.terms.tower.Given as goal

abbrev pub invariant-loop : goal.invariant-loop
invariant-loop l = l.id.index < length l.bank
