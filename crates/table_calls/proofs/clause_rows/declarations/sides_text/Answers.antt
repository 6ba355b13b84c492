use Rattle.clause_form.proofs.Walks.{known_at}
use Rattle.table_calls.proofs.clause_rows.declarations.sides_text.Goals as goal

pub text_of-requires : goal.text_of-requires
text_of-requires c = known_at c.args.bank.now c.args.left.now c.loop-term.term-index record { index = 0 } c.requires.left c.loop-term-test.true
