use Rattle.std.proofs.Common.{arith}
use Rattle.clause_form.proofs.Walks.{known_at}
use Rattle.table_calls.proofs.clause_rows.term_lists.are_unified.Goals as goal

pub unify-requires-clause-left_known : goal.unify-requires-clause-left_known
unify-requires-clause-left_known c = known_at c.args.bank.now c.args.lefts.now 0 record { index = 0 } c.requires.lefts (omega arith)

pub unify-requires-clause-right_known : goal.unify-requires-clause-right_known
unify-requires-clause-right_known c = known_at c.args.bank.now c.args.rights.now 0 record { index = 0 } c.requires.rights (omega arith)
