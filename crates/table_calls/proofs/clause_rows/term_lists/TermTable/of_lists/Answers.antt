use Rattle.std.proofs.Common.{arith}
use Rattle.clause_form.proofs.Walks.{known_at}
use Rattle.table_calls.proofs.clause_rows.term_lists.TermTable.of_lists.Goals as goal

pub renamed_text-requires-clause-term : goal.renamed_text-requires-clause-term
renamed_text-requires-clause-term c = known_at c.args.bank.now c.args.lefts.now 0 record { index = 0 } c.requires.lefts (omega arith)

pub moved_text-requires-clause-variable : goal.moved_text-requires-clause-variable
moved_text-requires-clause-variable c = known_at c.args.bank.now c.args.lefts.now 0 record { index = 0 } c.requires.lefts (omega arith)

pub moved_text-requires-clause-offset : goal.moved_text-requires-clause-offset
moved_text-requires-clause-offset c = known_at c.args.bank.now c.args.rights.now 0 record { index = 0 } c.requires.rights (omega arith)

pub tower_text-requires-clause-term : goal.tower_text-requires-clause-term
tower_text-requires-clause-term c = known_at c.args.bank.now c.args.lefts.now 0 record { index = 0 } c.requires.lefts (omega arith)

pub tower_text-requires-clause-variable : goal.tower_text-requires-clause-variable
tower_text-requires-clause-variable c = known_at c.args.bank.now c.args.rights.now 0 record { index = 0 } c.requires.rights (omega arith)
