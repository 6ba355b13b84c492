use Rattle.clause_form.proofs.Walks.{known_at}
use Rattle.table_calls.proofs.clause_rows.terms.place_of.Goals as goal

pub same-requires-clause-left_known : goal.same-requires-clause-left_known
same-requires-clause-left_known g c = known_at (g.B.Bank.trees c.args.bank.now) c.args.terms.now c.loop-other.other-index record { index = 0 } c.requires.all c.loop-other-test.true
