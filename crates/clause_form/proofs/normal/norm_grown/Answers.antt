use Rattle.std.proofs.Common.{◌≡◌, ◌∙◌, List, map, ap, sym, subst, rules}
use Rattle.std.specs.List.{list_any}
use Rattle.spec_clauses.specs.DiffDecision.{is_never_met}
use Rattle.term_tree.specs.declared.bank.Id.{Id}
use Rattle.term_tree.proofs.BankLaws.{Grows_refl}
use Rattle.clause_diffs.specs.Diffs.{DiffOf, diffs_at, AreDiffsIn}
use Rattle.clause_form.specs.Facts.{fact_of}
use Rattle.clause_form.specs.Seen.{clause_at, IdClause}
use Rattle.clause_form.proofs.Flattening.{clause_with}
use Rattle.clause_form.proofs.Anchoring.{norm_void, own_needed, few_named, norm_of_few}
use Rattle.clause_form.proofs.Norming.{norm_as}
use Rattle.clause_form.proofs.Numbered.{norm_low}
use Rattle.clause_form.proofs.normal.norm_grown.Goals as goal

pub returns-then-branch-clause-names : goal.returns-then-branch-clause-names
returns-then-branch-clause-names g c =
    let old = g.B.Bank.trees c.args.bank.now in
    let here : c.deref.result.now ≡ c.args.diffs.now = search rules in
    let void = ap (λ l. list_any is_never_met (diffs_at old l)) (sym here) ∙ (sym c.in_ok-is_void.ensures ∙ c.if-branch.true) in
    norm_void (clause_at old (clause_with c.args.hyps c.args.diffs.now (fact_of c.args.concl.now))) void

pub norm_of_needed-requires-clause-diffs : goal.norm_of_needed-requires-clause-diffs
norm_of_needed-requires-clause-diffs g c =
    let few_is : c.deref-4.result.now ≡ c.in_ok-few.few = search rules in
    subst (λ (l : List (DiffOf Id)). AreDiffsIn (g.B.Bank.trees c.args.bank.now) l) (sym few_is) c.in_ok-few.ensures.known

pub norm_of_needed-requires-clause-own : goal.norm_of_needed-requires-clause-own
norm_of_needed-requires-clause-own g c =
    let old = g.B.Bank.trees c.args.bank.now in
    let again : c.deref-3.result.now ≡ c.args.diffs.now = search rules in
    let few_is : c.deref-4.result.now ≡ c.in_ok-few.few = search rules in
    let named = few_named old (map fact_of c.deref-2.result.now) c.args.hyps c.deref-3.result.now c.args.diffs.now (fact_of c.args.concl.now) c.in_ok-few.few c.deref-4.result.now (ap (map fact_of) c.deref-2.ensures.value ∙ c.hyps.view_is) again few_is c.in_ok-few.ensures in
    own_needed old (clause_with c.args.hyps c.args.diffs.now (fact_of c.args.concl.now)) c.deref-4.result.now named

pub returns-clause-names : goal.returns-clause-names
returns-clause-names g c =
    let old = g.B.Bank.trees c.args.bank.now in
    let here : c.deref.result.now ≡ c.args.diffs.now = search rules in
    let again : c.deref-3.result.now ≡ c.args.diffs.now = search rules in
    let few_is : c.deref-4.result.now ≡ c.in_ok-few.few = search rules in
    let named = few_named old (map fact_of c.deref-2.result.now) c.args.hyps c.deref-3.result.now c.args.diffs.now (fact_of c.args.concl.now) c.in_ok-few.few c.deref-4.result.now (ap (map fact_of) c.deref-2.ensures.value ∙ c.hyps.view_is) again few_is c.in_ok-few.ensures in
    let met = ap (λ l. list_any is_never_met (diffs_at old l)) (sym here) ∙ (sym c.in_ok-is_void.ensures ∙ c.if-branch.false) in
    let is = norm_of_few old (clause_with c.args.hyps c.args.diffs.now (fact_of c.args.concl.now)) c.deref-4.result.now named met in
    norm_as (g.B.Bank.trees c.norm_of_needed.new.bank) c.norm_of_needed.result _ _ is c.norm_of_needed.ensures.names

pub returns-clause-low : goal.returns-clause-low
returns-clause-low g c =
    let old = g.B.Bank.trees c.args.bank.now in
    let new = g.B.Bank.trees c.norm_of_needed.new.bank in
    let whole : IdClause = clause_with c.args.hyps c.args.diffs.now (fact_of c.args.concl.now) in
    let here : c.deref.result.now ≡ c.args.diffs.now = search rules in
    let again : c.deref-3.result.now ≡ c.args.diffs.now = search rules in
    let few_is : c.deref-4.result.now ≡ c.in_ok-few.few = search rules in
    let named = few_named old (map fact_of c.deref-2.result.now) c.args.hyps c.deref-3.result.now c.args.diffs.now (fact_of c.args.concl.now) c.in_ok-few.few c.deref-4.result.now (ap (map fact_of) c.deref-2.ensures.value ∙ c.hyps.view_is) again few_is c.in_ok-few.ensures in
    let met = ap (λ l. list_any is_never_met (diffs_at old l)) (sym here) ∙ (sym c.in_ok-is_void.ensures ∙ c.if-branch.false) in
    let names = norm_as new c.norm_of_needed.result _ _ (norm_of_few old whole c.deref-4.result.now named met) c.norm_of_needed.ensures.names in
    norm_low new c.norm_of_needed.result (clause_at old whole) names c.norm_of_needed.ensures.first

pub returns-in_err-is_void-clause-grows : goal.returns-in_err-is_void-clause-grows
returns-in_err-is_void-clause-grows g c = Grows_refl (g.B.Bank.trees c.args.bank.now)

pub returns-in_err-few-clause-grows : goal.returns-in_err-few-clause-grows
returns-in_err-few-clause-grows g c = Grows_refl (g.B.Bank.trees c.args.bank.now)
