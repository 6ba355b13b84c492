use Rattle.std.proofs.Common.{◌≡◌, ◌∙◌, List, sym, subst}
use Rattle.clause_form.specs.Fit.{AreFit}
use Rattle.log_entries.specs.declared.log.Entry.{Entry}
use Rattle.log_entries.specs.Beating.{clauses_of}
use Rattle.log_entries.proofs.Marking.{fit_at}
use Rattle.attack_candidates.proofs.beginning.add_goals.Goals as goal

pub is_begun_with-requires : goal.is_begun_with-requires
is_begun_with-requires c =
    let all = c.args.bank.now in
    let same : c.deref-entry-items.result.now ≡ c.args.searched.now.log.now = c.deref-entry-items.ensures.value ∙ c.log.view_is in
    fit_at all c.deref-entry-items.result.now c.each.i c.entry-item.result c.entry-item.is (subst (λ (es : List Entry). AreFit all (clauses_of es)) (sym same) c.requires.log) c.each-test.true

pub add_goal-requires-clause-clause : goal.add_goal-requires-clause-clause
add_goal-requires-clause-clause c =
    let all = c.args.bank.now in
    let same : c.deref-entry-items.result.now ≡ c.args.searched.now.log.now = c.deref-entry-items.ensures.value ∙ c.log.view_is in
    fit_at all c.deref-entry-items.result.now c.each.i c.entry-item.result c.entry-item.is (subst (λ (es : List Entry). AreFit all (clauses_of es)) (sym same) c.requires.log) c.each-test.true
