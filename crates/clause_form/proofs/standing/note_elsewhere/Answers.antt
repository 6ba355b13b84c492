use Rattle.std.proofs.Common.{rules}
use Rattle.clause_form.specs.Seen.{clause_at}
use Rattle.clause_form.proofs.Noted.{noted_clause}
use Rattle.clause_form.proofs.standing.note_elsewhere.Goals as goal

pub returns : goal.returns
returns g c = noted_clause (clause_at (g.B.Bank.trees c.args.bank.now) c.args.clause.now) c.args.table.now c.note_in_fact.new.table c.note_in_hypotheses.new.table (search rules) (search rules)
