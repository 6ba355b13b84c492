use Rattle.std.proofs.Common.{◌∙◌, ◌++◌, ap, sym, append-nil}
use Rattle.clause_form.specs.Facts.{fact_of}
use Rattle.clause_form.specs.Seen.{fact_at}
use Rattle.clause_form.proofs.Noted.{none_of_loose, firm_told}
use Rattle.clause_form.proofs.variables.add_firm_variables.Goals as goal

pub returns-then-is_variable_known : goal.returns-then-is_variable_known
returns-then-is_variable_known g c =
    sym (append-nil c.args.numbers.now.items)
    ∙ ap (λ l. c.args.numbers.now.items ++ l) (none_of_loose (fact_at (g.B.Bank.trees c.args.bank.now) (fact_of c.args.fact.now)) c.is_variable_known.result c.is_variable_known.ensures c.if-is_variable_known.true)

pub returns : goal.returns
returns g c =
    firm_told c.add_fact_variables.result c.args.numbers.now.items c.add_fact_variables.new.numbers.items (fact_at (g.B.Bank.trees c.args.bank.now) (fact_of c.args.fact.now)) c.is_variable_known.result c.is_variable_known.ensures c.if-is_variable_known.false c.add_fact_variables.ensures
