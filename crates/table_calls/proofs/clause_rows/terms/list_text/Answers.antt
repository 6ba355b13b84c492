use Rattle.clause_form.proofs.Walks.{known_at}
use Rattle.table_calls.proofs.clause_rows.terms.list_text.Goals as goal

pub add_term-requires-clause-known : goal.add_term-requires-clause-known
add_term-requires-clause-known g c = known_at (g.B.Bank.trees c.args.bank.now) c.args.terms.now c.loop-term.term-index record { index = 0 } c.requires c.loop-term-test.true
