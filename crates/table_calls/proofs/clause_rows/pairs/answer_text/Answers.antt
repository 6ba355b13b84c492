use Rattle.table_calls.proofs.clause_rows.pairs.answer_text.Goals as goal

pub resolvents-requires-clause-solved_low : goal.resolvents-requires-clause-solved_low
resolvents-requires-clause-solved_low c = c.requires.solved.low

pub resolvents-requires-clause-unsolved_low : goal.resolvents-requires-clause-unsolved_low
resolvents-requires-clause-unsolved_low c = c.requires.unsolved.low
