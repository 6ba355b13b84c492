use Rattle.std.proofs.Common.{rules}
use Rattle.spec_calculus.specs.Bounds.{most_symbols}
use Rattle.spec_clauses.specs.Norm.{elsewhere}
use Rattle.clause_form.specs.Seen.{clause_at}
use Rattle.clause_form.proofs.Noted.{noted_tells}
use Rattle.clause_form.proofs.Told.{lonely_are}
use Rattle.clause_form.proofs.normality.has_none_lonely_noted.Goals as goal

pub none_lonely-requires-clause-table : goal.none_lonely-requires-clause-table
none_lonely-requires-clause-table g c = noted_tells most_symbols (elsewhere (clause_at (g.B.Bank.trees c.args.bank.now) c.args.clause.now)) c.note_elsewhere.new.table (search rules)

pub returns : goal.returns
returns g c = lonely_are (clause_at (g.B.Bank.trees c.args.bank.now) c.args.clause.now) c.none_lonely.result (search rules)
