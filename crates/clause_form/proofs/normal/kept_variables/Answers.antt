use Rattle.std.proofs.Common.{◌≡◌, ◌∙◌, ℕ, List, IfOk, map, ap, sym, subst, arith}
use Rattle.std.proofs.lemmas.Grind.{common_steps}
use Rattle.term_tree.specs.declared.bank.Id.{Id}
use Rattle.spec_clauses.specs.Fact.{Fact}
use Rattle.clause_form.specs.Facts.{fact_of}
use Rattle.clause_form.specs.Seen.{AreFactsIn, IdClause}
use Rattle.clause_form.proofs.Remaining.{general_kept, other_kept}
use Rattle.clause_form.proofs.normal.kept_variables.Goals as goal

pub without_repeats-requires : goal.without_repeats-requires
without_repeats-requires g c =
    subst (λ (fs : List (Fact Id)). AreFactsIn (g.B.Bank.trees c.args.bank.now) fs) (sym (c.in_ok-copied.ensures ∙ ap (λ (k : IdClause). k.hypotheses) c.clause.view_is)) c.requires.hypotheses

pub returns-then-is_general : goal.returns-then-is_general
returns-then-is_general g c =
    let all = g.B.Bank.trees c.args.bank.now in
    let concl = ap (λ (k : IdClause). k.conclusion) c.clause.view_is in
    let hyps = c.in_ok-copied.ensures ∙ ap (λ (k : IdClause). k.hypotheses) c.clause.view_is in
    let fewer = ap (map fact_of) c.deref.ensures.value ∙ c.few.view_is in
    subst (λ (v : List ℕ). IfOk c.variables_of.result (λ numbers. numbers.items ≡ v))
    (general_kept all c.args.clause.now _ c.in_ok-copied.copied c.in_ok-kept.kept c.in_ok-few.few concl hyps c.in_ok-kept.ensures c.in_ok-few.ensures (map fact_of c.deref.result.now) c.is_general.result fewer c.is_general.ensures c.if-is_general.true) c.variables_of.ensures

pub returns : goal.returns
returns g c =
    let all = g.B.Bank.trees c.args.bank.now in
    let concl = ap (λ (k : IdClause). k.conclusion) c.clause.view_is in
    let hyps = c.in_ok-copied.ensures ∙ ap (λ (k : IdClause). k.hypotheses) c.clause.view_is in
    let fewer = ap (map fact_of) c.deref.ensures.value ∙ c.few.view_is in
    let again = ap (map fact_of) c.deref-2.ensures.value ∙ c.few.view_is in
    subst (λ (v : List ℕ). IfOk c.variables_of-2.result (λ numbers. numbers.items ≡ v))
    (other_kept all c.args.clause.now _ c.in_ok-copied.copied c.in_ok-kept.kept c.in_ok-few.few concl hyps c.in_ok-kept.ensures c.in_ok-few.ensures (map fact_of c.deref.result.now) (map fact_of c.deref-2.result.now) c.is_general.result fewer again c.is_general.ensures c.if-is_general.false) c.variables_of-2.ensures

pub variables_of-requires-2-clause-concl : goal.variables_of-requires-2-clause-concl
variables_of-requires-2-clause-concl g c = grind (arith, common_steps)

pub variables_of-requires-clause-concl : goal.variables_of-requires-clause-concl
variables_of-requires-clause-concl g c = grind (arith, common_steps)

pub variables_of-requires-2-clause-hyps : goal.variables_of-requires-2-clause-hyps
variables_of-requires-2-clause-hyps g c = grind (arith, common_steps)

pub is_general-requires-clause-concl : goal.is_general-requires-clause-concl
is_general-requires-clause-concl g c = grind (arith, common_steps)
