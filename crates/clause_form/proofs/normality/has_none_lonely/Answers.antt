use Rattle.std.proofs.Common.{rules}
use Rattle.spec_clauses.specs.Norm.{elsewhere}
use Rattle.clause_form.specs.Seen.{clause_at}
use Rattle.clause_form.proofs.Noted.{nothing_told}
use Rattle.clause_form.proofs.Told.{lonely_are}
use Rattle.clause_form.proofs.normality.has_none_lonely.Goals as goal

pub none_lonely-requires-clause-table : goal.none_lonely-requires-clause-table
none_lonely-requires-clause-table g c = nothing_told (elsewhere (clause_at (g.B.Bank.trees c.args.bank.now) c.args.clause.now))

pub returns : goal.returns
returns g c = lonely_are (clause_at (g.B.Bank.trees c.args.bank.now) c.args.clause.now) c.none_lonely.result (search rules)
