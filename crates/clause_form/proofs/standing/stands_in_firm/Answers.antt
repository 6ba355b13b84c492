use Rattle.std.proofs.Common.{◌∙◌, nat_eq, ap}
use Rattle.std.specs.List.{list_any}
use Rattle.clause_form.specs.Facts.{fact_of}
use Rattle.clause_form.specs.Seen.{fact_at}
use Rattle.clause_form.proofs.Noted.{none_of_loose, all_of_firm}
use Rattle.clause_form.proofs.standing.stands_in_firm.Goals as goal

pub returns-then-is_variable_known : goal.returns-then-is_variable_known
returns-then-is_variable_known g c = ap (list_any (nat_eq c.args.number)) (none_of_loose (fact_at (g.B.Bank.trees c.args.bank.now) (fact_of c.args.fact.now)) c.is_variable_known.result c.is_variable_known.ensures c.if-is_variable_known.true)

pub returns : goal.returns
returns g c = c.stands_in_fact.ensures ∙ ap (list_any (nat_eq c.args.number)) (all_of_firm (fact_at (g.B.Bank.trees c.args.bank.now) (fact_of c.args.fact.now)) c.is_variable_known.result c.is_variable_known.ensures c.if-is_variable_known.false)
