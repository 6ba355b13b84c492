use Rattle.std.proofs.Common.{arith}
use Rattle.clause_form.proofs.Walks.{known_at}
use Rattle.table_calls.proofs.clause_rows.term_lists.are_matched.Goals as goal

pub match_onto-requires-clause-general_known : goal.match_onto-requires-clause-general_known
match_onto-requires-clause-general_known c = known_at c.args.bank.now c.args.lefts.now 0 record { index = 0 } c.requires.lefts (omega arith)

pub match_onto-requires-clause-special_known : goal.match_onto-requires-clause-special_known
match_onto-requires-clause-special_known c = known_at c.args.bank.now c.args.rights.now 0 record { index = 0 } c.requires.rights (omega arith)
