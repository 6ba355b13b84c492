use Rattle.std.proofs.Common.{◌∙◌, ◌++◌, ℕ, List, IfOk, not, filter, map, ap, subst}
use Rattle.spec_clauses.specs.Norm.{is_lonely}
use Rattle.spec_clauses.specs.Variables.{fact_variables, firm_variables}
use Rattle.clause_form.specs.Facts.{fact_of}
use Rattle.clause_form.specs.Seen.{fact_at, NameFacts}
use Rattle.clause_form.proofs.normal.shared_hypotheses.Goals as goal

pub returns : goal.returns
returns g c =
    let all = g.B.Bank.trees c.args.bank.now in
    let hyps = ap (map fact_of) c.deref.ensures.value ∙ c.hyps.view_is in
    let variables = c.in_ok-numbers.ensures ∙ (c.in_ok-occurring.ensures ∙ ap (λ l. fact_variables (fact_at all (fact_of c.args.concl.now)) ++ firm_variables (map (fact_at all) l)) hyps) in
    subst (λ (v : List ℕ). IfOk c.without_lonely.result (λ kept. NameFacts all kept (filter (λ h. not (is_lonely v h)) (map (fact_at all) c.args.hyps)))) variables c.without_lonely.ensures
