use Rattle.clause_diffs.proofs.Walks.{known_at}
use Rattle.log_text.proofs.spelling.put_terms.Goals as goal

pub put_term-requires : goal.put_term-requires
put_term-requires c = known_at c.args.bank.now c.args.terms.now c.each.term-index record { index = 0 } c.requires c.each-test.true
