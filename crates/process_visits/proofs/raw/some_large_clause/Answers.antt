use Rattle.std.proofs.Common.{sym, subst, ◌∙◌, arith}
use Rattle.clause_form.specs.Seen.{AreClausesIn}
use Rattle.clause_form.proofs.Walks.{clause_known_at}
use Rattle.std.proofs.lemmas.Grind.{common_steps}
use Rattle.process_visits.proofs.raw.some_large_clause.Goals as goal

pub is_large_clause-requires : goal.is_large_clause-requires
is_large_clause-requires g c =
    let all = g.B.Bank.trees c.args.bank.now in
    clause_known_at all c.deref-clause-items.result.now c.loop-clause.clause-index c.clause-item.result c.clause-item.is
    (subst (λ cs. AreClausesIn all cs) (sym (c.deref-clause-items.ensures.value ∙ c.clauses.view_is)) c.requires) c.loop-clause-test.true

pub returns-then-is_large_clause : goal.returns-then-is_large_clause
returns-then-is_large_clause g c = grind (arith, common_steps)

pub loop-clause-preserved : goal.loop-clause-preserved
loop-clause-preserved g c = grind (arith, common_steps)

pub returns : goal.returns
returns g c = grind (arith, common_steps)
