use Rattle.clause_form.proofs.Walks.{known_at}
use Rattle.table_calls.proofs.clause_rows.term_lists.numbers_of.Goals as goal

pub number_of-requires : goal.number_of-requires
number_of-requires c = known_at c.args.bank.now c.args.terms.now c.loop-term.term-index record { index = 0 } c.requires c.loop-term-test.true
