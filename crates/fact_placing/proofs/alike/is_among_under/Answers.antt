use Rattle.clause_diffs.proofs.Walks.{diff_known_at}
use Rattle.fact_placing.proofs.alike.is_among_under.Goals as goal

pub is_diff_under-requires-clause-one : goal.is_diff_under-requires-clause-one
is_diff_under-requires-clause-one g c = diff_known_at (g.B.Bank.trees c.args.from.now.bank.now) c.args.kept_in.now c.loop-one.one-index c.one-item.result c.one-item.is c.requires.kept_in c.loop-one-test.true
