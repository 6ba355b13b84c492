use Rattle.std.proofs.Common.{◌≡◌, ◌∙◌, nat_eq, sym, rules}
use Rattle.std.specs.List.{list_any}
use Rattle.spec_clauses.specs.Variables.{fact_variables, firm_variables}
use Rattle.clause_form.specs.Seen.{clause_at}
use Rattle.clause_form.proofs.Noted.{any_elsewhere, any_here, any_later}
use Rattle.clause_form.proofs.standing.stands_elsewhere.Goals as goal

pub returns-then-stands_in_fact : goal.returns-then-stands_in_fact
returns-then-stands_in_fact g c =
    let clause = clause_at (g.B.Bank.trees c.args.bank.now) c.args.clause.now in
    let test = nat_eq c.args.number in
    let first : c.stands_in_fact.result ≡ list_any test (fact_variables clause.conclusion) = search rules in
    any_here _ (list_any test (fact_variables clause.conclusion)) (list_any test (firm_variables clause.hypotheses)) (any_elsewhere clause c.args.number) (sym first ∙ c.if-stands_in_fact.true)

pub returns : goal.returns
returns g c =
    let clause = clause_at (g.B.Bank.trees c.args.bank.now) c.args.clause.now in
    let test = nat_eq c.args.number in
    let first : c.stands_in_fact.result ≡ list_any test (fact_variables clause.conclusion) = search rules in
    let rest : c.stands_in_hypotheses.result ≡ list_any test (firm_variables clause.hypotheses) = search rules in
    rest ∙ sym (any_later _ (list_any test (fact_variables clause.conclusion)) (list_any test (firm_variables clause.hypotheses)) (any_elsewhere clause c.args.number) (sym first ∙ c.if-stands_in_fact.false))
