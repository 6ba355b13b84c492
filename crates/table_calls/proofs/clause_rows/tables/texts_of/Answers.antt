use Rattle.clause_form.proofs.Walks.{clause_known_at}
use Rattle.table_calls.proofs.clause_rows.tables.texts_of.Goals as goal

pub add_text-requires : goal.add_text-requires
add_text-requires g c = clause_known_at (g.B.Bank.trees c.args.bank.now) c.args.clauses.now c.loop-clause.clause-index c.clause-item.result c.clause-item.is c.requires c.loop-clause-test.true
