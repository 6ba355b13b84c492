use Rattle.clause_resolve.proofs.Answering.{IsClauseIn-later}
use Rattle.table_calls.proofs.clause_rows.table.PairKind.shown_before.Goals as goal

pub shown_in-requires-clause-first : goal.shown_in-requires-clause-first
shown_in-requires-clause-first c = IsClauseIn-later c.args.bank.now c.copy_into.new.bank c.args.first.now c.copy_into.ensures.grows c.requires
