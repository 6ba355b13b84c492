use Rattle.clause_form.proofs.Fit.{IsFit-grows}
use Rattle.table_calls.proofs.clause_rows.pairs.resolvents_text.Goals as goal

pub fit_text-requires-clause-solved : goal.fit_text-requires-clause-solved
fit_text-requires-clause-solved c = IsFit-grows c.args.bank.now c.fit_clause.new.bank c.args.solved.now c.fit_clause.ensures.grows c.requires.solved
