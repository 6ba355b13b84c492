use Rattle.clause_diffs.proofs.Walks.{known_at}
use Rattle.log_text.proofs.refusing.find_all.Goals as goal

pub known_at-requires : goal.known_at-requires
known_at-requires c = known_at c.args.attempt.now.bank.now c.args.terms.now c.each.term-index record { index = 0 } c.requires c.each-test.true
