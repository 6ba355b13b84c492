use Rattle.clause_resolve.proofs.Answering.{IsClauseIn-later}
use Rattle.table_calls.proofs.clause_rows.pairs.PairTable.shown_in.Goals as goal

pub shown_of-requires-clause-second : goal.shown_of-requires-clause-second
shown_of-requires-clause-second c = IsClauseIn-later c.args.bank.now c.fit_clause.new.bank c.args.second.now c.fit_clause.ensures.grows c.requires.second
