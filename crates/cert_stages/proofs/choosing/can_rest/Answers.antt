use Rattle.std.proofs.Common.{◌≡◌, ◌∙◌, ap, sym, inl, rules}
use Rattle.spec_clauses.specs.Fact.{Fact, is_variable_known}
use Rattle.spec_clauses.specs.Selection.{is_solved}
use Rattle.term_tree.specs.declared.bank.Id.{Id}
use Rattle.clause_form.specs.Facts.{fact_of}
use Rattle.clause_form.specs.Seen.{fact_at, clause_at}
use Rattle.cert_stages.proofs.Numbers.{unsolved_rests}
use Rattle.cert_stages.proofs.choosing.can_rest.Goals as goal

pub returns-then-is_solved : goal.returns-then-is_solved
returns-then-is_solved g c = (λ t. inl (sym c.is_solved.ensures ∙ c.if-is_solved.true), λ rests. c.if-is_solved.true)

pub returns-else-is_solved : goal.returns-else-is_solved
returns-else-is_solved g c =
    let all = g.B.Bank.trees c.args.bank.now in
    let seen = clause_at all c.args.clause.now in
    let concluded : fact_of c.clause.inside.concl ≡ c.args.clause.now.conclusion = search rules in
    unsolved_rests (is_solved seen.hypotheses) c.is_variable_known.result (is_variable_known seen.conclusion) (sym c.is_solved.ensures ∙ c.if-is_solved.false)
    (c.is_variable_known.ensures ∙ ap (λ (f : Fact Id). is_variable_known (fact_at all f)) concluded)
