use Rattle.std.proofs.Common.{◌∙◌, sym, arith}
use Rattle.spec_clauses.specs.Selection.{select}
use Rattle.clause_form.specs.Seen.{clause_at}
use Rattle.query_derive.proofs.Deciding.{few_hypotheses}
use Rattle.fact_fingerprint.proofs.Telling.{place_within}
use Rattle.cert_stages.proofs.Numbers.{number_none, number_some}
use Rattle.cert_stages.proofs.choosing.selected_number.Goals as goal

pub overflow_add-result : goal.overflow_add-result
overflow_add-result g c =
    let seen = clause_at (g.B.Bank.trees c.args.bank.now) c.args.clause.now in
    omega (arith, place_within seen c.selected.result c.in-Some.at c.selected.ensures.place c.in-Some.is, few_hypotheses seen c.requires.small)

pub returns-in-None : goal.returns-in-None
returns-in-None g c =
    let seen = clause_at (g.B.Bank.trees c.args.bank.now) c.args.clause.now in
    number_none (select seen.hypotheses) (sym c.selected.ensures.place ∙ c.in-None.is)

pub returns-in-Some : goal.returns-in-Some
returns-in-Some g c =
    let seen = clause_at (g.B.Bank.trees c.args.bank.now) c.args.clause.now in
    number_some (select seen.hypotheses) c.in-Some.at (sym c.selected.ensures.place ∙ c.in-Some.is)
