use Rattle.std.proofs.Common.{◌∙◌, ap}
use Rattle.clause_form.specs.Facts.{fact_of}
use Rattle.clause_form.specs.Seen.{fact_at}
use Rattle.clause_form.specs.Standing.{noted}
use Rattle.clause_form.proofs.Noted.{none_of_loose, all_of_firm}
use Rattle.clause_form.proofs.standing.note_in_firm.Goals as goal

pub returns-then-not-is_variable_known : goal.returns-then-not-is_variable_known
returns-then-not-is_variable_known g c = c.note_in_fact.ensures ∙ ap (noted c.args.table.now) (all_of_firm (fact_at (g.B.Bank.trees c.args.bank.now) (fact_of c.args.fact.now)) c.is_variable_known.result c.is_variable_known.ensures c.if-not-is_variable_known.true)

pub returns-else-not-is_variable_known : goal.returns-else-not-is_variable_known
returns-else-not-is_variable_known g c = ap (noted c.args.table.now) (none_of_loose (fact_at (g.B.Bank.trees c.args.bank.now) (fact_of c.args.fact.now)) c.is_variable_known.result c.is_variable_known.ensures c.if-not-is_variable_known.false)
