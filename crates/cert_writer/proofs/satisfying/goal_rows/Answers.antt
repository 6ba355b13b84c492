use Rattle.std.proofs.Common.{◌≡◌, ◌∙◌, ◌+◌, Some, List, refl, sym, subst, arith}
use Rattle.std.proofs.lemmas.Grind.{common_steps}
use Rattle.std.specs.Prelude.{slice_get, MatchBool}
use Rattle.pi_tree.specs.Protocols.{protocol_of}
use Rattle.log_entries.specs.declared.log.Entry.{Entry}
use Rattle.clause_form.specs.Fit.{AreFit}
use Rattle.log_entries.specs.Beating.{clauses_of}
use Rattle.log_entries.proofs.Placing.{get_at}
use Rattle.log_entries.proofs.Marking.{fit_at}
use Rattle.cert_writer.specs.Goals.{AddsGoal, IsUnmetEntry}
use Rattle.cert_writer.proofs.Meeting.{goals_next, first_unmet}
use Rattle.cert_writer.proofs.satisfying.goal_rows.Goals as goal

pub add_goal-requires-clause-fit : goal.add_goal-requires-clause-fit
add_goal-requires-clause-fit g c =
    let all = g.B.Bank.trees c.args.bank.now in
    let same : c.deref-entry-items.result.now ≡ c.args.log.now = c.deref-entry-items.ensures.value ∙ c.log.view_is in
    fit_at all c.deref-entry-items.result.now c.each.k c.entry-item.result c.entry-item.is (subst (λ (es : List Entry). AreFit all (clauses_of es)) (sym same) c.requires.fit) c.each-test.true

pub returns-then-not-branch : goal.returns-then-not-branch
returns-then-not-branch g c =
    let all = g.B.Bank.trees c.args.bank.now in
    let P = protocol_of c.args.writer.now.protocol.now in
    let e = c.entry-item.result in
    let same : c.deref-entry-items.result.now ≡ c.args.log.now = c.deref-entry-items.ensures.value ∙ c.log.view_is in
    let here = subst (λ (es : List Entry). slice_get es c.each.k ≡ Some e) same (get_at c.deref-entry-items.result.now c.each.k e c.entry-item.is c.each-test.true) in
    λ q at.
    let unmet = subst (λ b. MatchBool b (AddsGoal P q all e c.each.rows c.add_goal.new.rows) (IsUnmetEntry P q all e)) c.if-not-branch.true (c.in_ok-add_goal.ensures q at) in
    first_unmet all P q c.args.log.now c.each.k (c.each.k + 1) e c.each.rows refl here unmet (c.each.invariant q at)

pub each-preserved : goal.each-preserved
each-preserved g c =
    let all = g.B.Bank.trees c.args.bank.now in
    let P = protocol_of c.args.writer.now.protocol.now in
    let e = c.entry-item.result in
    let same : c.deref-entry-items.result.now ≡ c.args.log.now = c.deref-entry-items.ensures.value ∙ c.log.view_is in
    let here = subst (λ (es : List Entry). slice_get es c.each.k ≡ Some e) same (get_at c.deref-entry-items.result.now c.each.k e c.entry-item.is c.each-test.true) in
    λ q at.
    let adds = subst (λ b. MatchBool b (AddsGoal P q all e c.each.rows c.add_goal.new.rows) (IsUnmetEntry P q all e)) c.if-not-branch.false (c.in_ok-add_goal.ensures q at) in
    goals_next all P q c.args.log.now c.each.k e c.each.rows c.add_goal.new.rows here adds (c.each.invariant q at)

pub returns : goal.returns
returns g c = grind (arith, common_steps)

pub each-init : goal.each-init
each-init g c = grind (arith, common_steps)
