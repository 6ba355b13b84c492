use Rattle.std.proofs.Common.{arith}
use Rattle.table_calls.proofs.clause_rows.Moving.{moved_fits}
use Rattle.table_calls.proofs.clause_rows.term_lists.moved_text.Goals as goal

pub shifted-requires-clause-fits : goal.shifted-requires-clause-fits
shifted-requires-clause-fits c x has = moved_fits _ c.in-Var.number _ x c.in-Var.ensures (omega arith) (omega arith) has
